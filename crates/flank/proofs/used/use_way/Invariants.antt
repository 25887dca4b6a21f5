use Rattle.std.proofs.Common.{◌≡◌, drop}
use Rattle.flank.specs.Used.{with_used}
use Rattle.flank.proofs.used.use_way.Given as goal

abbrev pub invariant-loop-number : goal.invariant-loop-number
invariant-loop-number l = with_used l.elements l.way l.initial.used ≡ with_used l.elements (drop l.number-index l.way) l.used
