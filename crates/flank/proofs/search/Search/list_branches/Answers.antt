use Rattle.flank.proofs.Filled.{below_added}
use Rattle.flank.proofs.search.Search.list_branches.Goals as goal

pub loop-point-preserved : goal.loop-point-preserved
loop-point-preserved c = below_added _ _ _ _ _ _ _ c.loop-point.invariant c.add_open.ensures c.marks_of.ensures
