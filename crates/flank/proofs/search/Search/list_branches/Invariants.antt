use Rattle.flank.specs.Fillings.{Adds}
use Rattle.flank.specs.Protection.{branches_below}
use Rattle.flank.proofs.search.Search.list_branches.Given as goal

abbrev pub invariant-loop-point : goal.invariant-loop-point
invariant-loop-point l = Adds l.initial.filling (branches_below l.self.elements.now l.self.route.now l.point) l.filling
