use Rattle.flank.proofs.Filled.{adds_none, branches_added}
use Rattle.flank.proofs.listing.Filling+Branch.add_open.Goals.{then-mark, else-mark}
use Rattle.flank.proofs.listing.Filling+Branch.add_open.Goals as goal

pub loop-last-preserved : goal.loop-last-preserved
loop-last-preserved c = branches_added _ _ _ _ _ _ c.loop-last.invariant (elim c.if-mark.branch [
  | then-mark w ↦ rw (w.if-mark.true, w.self-is) w.add.ensures
  | else-mark w ↦ rw (w.if-mark.false, w.self-is) (adds_none _)
])
