use Rattle.std.proofs.Common.{ℕ, arith, rules}
use Rattle.std.proofs.lemmas.Iterator.{YieldsList-from_range}
use Rattle.paths.specs.Following.{exit, step}
use Rattle.paths.proofs.FirstFound.{first_from_yields_List}
use Rattle.paths.proofs.way.step_to.Goals as goal

pub returns : goal.returns
unfolding step
returns c =
    let answer = exit c.args.elements.now c.args.entered.element c.args.entered.port c.args.next in
    first_from_yields_List _ (λ (x : ℕ). x) _ answer _ (λ x r q k. search rules) _ _ _ _ c.find_map.ensures.ran c.find_map.ensures.runs (YieldsList-from_range 0 3 3 (cc) (omega arith))
