use Rattle.std.proofs.Common.{arith}
use Rattle.flank.proofs.Filled.{requests_count, requests_made_more}
use Rattle.flank.proofs.listing.list_requests.Goals as goal

pub add_requests-requires : goal.add_requests-requires
add_requests-requires g c = omega (arith, requests_count _ _ _ _ _ c.loop-element.invariant)

pub loop-element-preserved : goal.loop-element-preserved
loop-element-preserved g c = requests_made_more _ _ _ _ _ _ c.loop-element.invariant c.add_requests.ensures
