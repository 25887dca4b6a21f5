use Rattle.flank.specs.Fillings.{Adds}
use Rattle.flank.specs.Protection.{branches_in}
use Rattle.flank.proofs.listing.Filling+Branch.add_open.Given as goal

abbrev pub invariant-loop-last : goal.invariant-loop-last
invariant-loop-last l = Adds l.initial.self (branches_in l.from l.marked l.last) l.self
