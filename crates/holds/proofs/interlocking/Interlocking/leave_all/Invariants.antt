use Rattle.std.proofs.Common.{◌≡◌}
use Rattle.holds.specs.Granting.{taken_out}
use Rattle.holds.proofs.interlocking.Interlocking.leave_all.Given as goal

abbrev pub invariant-loop-hold : goal.invariant-loop-hold
invariant-loop-hold l = l.hold-items ≡ (taken_out l.fn.self l.route l.hold-index).holds
