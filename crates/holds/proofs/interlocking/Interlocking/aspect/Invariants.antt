use Rattle.std.proofs.Common.{◌≡◌}
use Rattle.holds.specs.Aspects.{aspect_upto}
use Rattle.holds.proofs.interlocking.Interlocking.aspect.Given as goal

abbrev pub invariant-loop-route : goal.invariant-loop-route
invariant-loop-route l = l.aspect ≡ aspect_upto l.sheets l.self l.signal l.route
