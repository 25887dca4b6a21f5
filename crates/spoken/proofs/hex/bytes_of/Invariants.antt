use Rattle.std.proofs.Common.{◌≡◌, map, Ok}
use Rattle.std.proofs.lemmas.Iterator.{YieldsList}
use Rattle.std.specs.Vec.{vec_items}
use Rattle.spoken.proofs.Pairs.{pairs_in, bytes_of_pairs}
use Rattle.spoken.proofs.hex.bytes_of.Given as goal

abbrev pub invariant-loop-digits : goal.invariant-loop-digits
invariant-loop-digits l =
    (goal.iterator-loop-digits).can_next l.digits-iterator
    × (goal.iterator-loop-digits).is_finite l.digits-iterator
    × YieldsList (goal.iterator-loop-digits).next_gives (λ x. x.now) l.initial.digits-iterator (pairs_in l.fn.text)
    × (bytes_of_pairs (map (λ x. x.now) l.yielded) ≡ Ok (vec_items l.bytes))
