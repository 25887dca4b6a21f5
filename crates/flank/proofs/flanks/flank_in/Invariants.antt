use Rattle.std.proofs.Common.{◌≡◌}
use Rattle.std.specs.Slice.Iter.{windows_rest}
use Rattle.std.specs.Slice.ArrayWindows.{array_windows_parts}
use Rattle.flank.specs.Flanks.{flank_in}
use Rattle.flank.proofs.flanks.flank_in.Given as goal

abbrev pub invariant-loop-element : goal.invariant-loop-element
invariant-loop-element l =
    flank_in l.elements l.first l.way l.point ≡ flank_in l.elements l.before (windows_rest (array_windows_parts l.element-iterator)) l.point
