use Rattle.std.proofs.Common.{◌≡◌, length}
use Rattle.flank.specs.Protection.{marks_below}
use Rattle.flank.proofs.search.Search.shields.Given as goal

abbrev pub invariant-loop-number : goal.invariant-loop-number
invariant-loop-number l = (length l.marked ≡ 96) × (l.marked ≡ marks_below l.self.elements.now l.self.route.now l.number)
