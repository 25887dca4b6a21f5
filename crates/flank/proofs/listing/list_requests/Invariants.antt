use Rattle.flank.specs.Fillings.{AddsMade}
use Rattle.flank.specs.Protection.{requests_in}
use Rattle.flank.proofs.listing.list_requests.Given as goal

abbrev pub invariant-loop-element : goal.invariant-loop-element
invariant-loop-element g l = AddsMade (g.A.Answering.answer_to l.answering) l.initial.filling (requests_in l.marked l.element) l.filling
