use Rattle.std.proofs.Common.{◌≡◌, ℕ, Option, drop, fold}
use Rattle.layout.specs.declared.position.Position.{Position}
use Rattle.holds.specs.declared.interlocking.Interlocking.{Interlocking}
use Rattle.holds.specs.Granting.{AnswersBy, joined_as}
use Rattle.holds.proofs.interlocking.Interlocking.join_wanted.Given as goal

abbrev pub invariant-loop-element : goal.invariant-loop-element
invariant-loop-element g l =
    (rule : Interlocking → ℕ → Option Position) → AnswersBy (goal.F-post g l.choice) rule
    → fold (joined_as rule l.route) l.self (drop l.element-index l.element-items)
    ≡ fold (joined_as rule l.route) l.initial.self l.element-items
