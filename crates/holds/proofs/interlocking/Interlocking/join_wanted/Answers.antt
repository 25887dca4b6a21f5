use Rattle.std.proofs.Common.{◌≡◌, fold, get_or, sym, ap, ◌∙◌, rules}
use Rattle.std.proofs.lemmas.List.{at_drop_all}
use Rattle.holds.specs.Granting.{joined_if_any, joined_as}
use Rattle.holds.proofs.Joining.{joined_more}
use Rattle.holds.proofs.interlocking.Interlocking.join_wanted.Goals as goal
use Rattle.holds.proofs.interlocking.Interlocking.join_wanted.Goals.{in-Some, in_default}

pub loop-element-preserved : goal.loop-element-preserved
loop-element-preserved g c =
    λ rule follows.
    let es = c.as_slice-element-items.result.now in
    let e = get_or es c.loop-element.element-index 0 in
    let after : c.match-choice.self ≡ joined_if_any c.loop-element.self c.args.route e c.choice.result =
    elim c.match-choice.branch [ in-Some w ↦ search rules | in_default w ↦ search rules ] in
    joined_more rule c.args.route c.loop-element.self _ _ es c.loop-element.element-index c.choice.result c.loop-element-test.true (follows _ _ _ c.choice.ensures) after (c.loop-element.invariant rule follows)

pub returns : goal.returns
returns g c =
    λ rule follows.
    let es = c.as_slice-element-items.result.now in
    let all = at_drop_all (fold (joined_as rule c.args.route) c.loop-element.self) es c.loop-element.element-index c.loop-element-test.false in
    sym all ∙ (c.loop-element.invariant rule follows ∙ ap (fold (joined_as rule c.args.route) c.args.self.now) c.as_slice-element-items.ensures)
