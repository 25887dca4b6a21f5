use Rattle.std.proofs.Common.{◌≡◌, not}
use Rattle.readiness.specs.Settling.{pass}
use Rattle.readiness.proofs.Turns.{first_stay}
use Rattle.readiness.proofs.passes.pass.Given as goal

-- What the routes so far have come to, and whether one of them was changed.
abbrev pub invariant-loop-number : goal.invariant-loop-number
invariant-loop-number g l =
    (l.interlocking ≡ pass l.settling l.sheets (g.F.Field.meaning l.field) l.initial.interlocking l.number)
    × (l.changed ≡ not (first_stay l.settling l.sheets (g.F.Field.meaning l.field) l.initial.interlocking l.number))
