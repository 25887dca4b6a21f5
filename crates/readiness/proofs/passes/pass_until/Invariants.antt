use Rattle.std.proofs.Common.{◌≡◌, ◌-◌}
use Rattle.sheets.specs.Reading.{route_count}
use Rattle.readiness.specs.Settling.{passes_until}
use Rattle.readiness.proofs.passes.pass_until.Given as goal

-- What is left of the passes comes to the same end.
abbrev pub invariant-loop-route : goal.invariant-loop-route
invariant-loop-route g l =
    passes_until l.settling l.sheets (g.F.Field.meaning l.field) l.interlocking (route_count l.sheets - l._route-index)
    ≡ passes_until l.settling l.sheets (g.F.Field.meaning l.field) l.initial.interlocking (route_count l.sheets)
