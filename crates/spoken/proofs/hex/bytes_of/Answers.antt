use Rattle.std.proofs.Common.{rules, tests, ◌≡◌, ◌∙◌, Err}
use Rattle.std.proofs.iter.Serving.{serving}
use Rattle.std.proofs.lemmas.Iterator.Adapters.{YieldsList-from_flat_map}
use Rattle.std.proofs.lemmas.Iterator.Consumers.{YieldsList-at}
use Rattle.std.proofs.lemmas.Iterator.Splits.{YieldsList-from_slice_split}
use Rattle.spoken.specs.Digits.{is_gap, bytes_in}
use Rattle.spoken.proofs.Pairs.{pairs_of, read_more, read_to_end, read_to_fault, YieldsListFrom_pairs}
use Rattle.spoken.proofs.hex.bytes_of.Goals as goal

-- the loop goes over the pairs of the text
pub loop-digits-init : goal.loop-digits-init
loop-digits-init c = (
  grind serving,
  grind serving,
  YieldsList-at c.into_iter-digits-iterator.ensures.into_iter_gives
      (YieldsList-from_flat_map _ _ _ (λ x. x.now) pairs_of _
      (λ x u q k. (search (rules, tests), λ j e. YieldsList-at e (YieldsListFrom_pairs x.now (search (rules, tests)) (search (rules, tests)))))
      (YieldsList-at c.flat_map-digits-items.ensures.source
      (YieldsList-from_slice_split _ is_gap c.args.text.now (c.split-words.ensures.rest ∙ c.as_bytes.ensures.value) c.split-words.ensures.done c.split-words.ensures.closure (λ x b q k. search (rules, tests))))
      c.flat_map-digits-items.ensures.closure c.flat_map-digits-items.ensures.front c.flat_map-digits-items.ensures.back c.flat_map-digits-items.ensures.done),
  search rules,
)

pub loop-digits-preserved : goal.loop-digits-preserved
loop-digits-preserved c =
    (search rules, search rules, c.loop-digits.invariant.2, read_more c.loop-digits.yielded c.in-Some.digits _ _ c.in_ok-byte.field-0 c.loop-digits.invariant.3 (search rules) (search rules))

pub returns-in_err-byte : goal.returns-in_err-byte
returns-in_err-byte c =
    let fault : bytes_in c.args.text.now ≡ Err c.in_err-byte.field-0.0 =
    read_to_fault c.args.text.now c.loop-digits.invariant.2 c.loop-digits.yielded _ c.loop-digits.yielded_by _ c.loop-digits.invariant.3 _ _ c.in-Some.digits _ c.in-Some.is c.next.ensures.steps (search rules) in
    search rules

pub returns : goal.returns
returns c = read_to_end c.args.text.now c.loop-digits.invariant.2 c.loop-digits.yielded _ c.loop-digits.yielded_by _ c.loop-digits.invariant.3 _ _ c.in-None.is c.next.ensures.steps
