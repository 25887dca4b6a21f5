use Rattle.flank.proofs.search.Search.+walk.Given as goal

abbrev pub decreases-walk : goal.decreases-walk
decreases-walk l = l.spare
