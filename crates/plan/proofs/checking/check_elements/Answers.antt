use Rattle.std.proofs.Common.{rules}
use Rattle.std.proofs.lemmas.List.{get_or_default}
use Rattle.plan.specs.Checks.{elements_fault}
use Rattle.plan.proofs.FirstTurn.{first_more}
use Rattle.plan.proofs.checking.check_elements.Goals as goal

pub loop-number-preserved : goal.loop-number-preserved
loop-number-preserved g c = λ demand follows. search (rules, first_more, get_or_default)

pub returns-in_err-demanded : goal.returns-in_err-demanded
unfolding elements_fault
returns-in_err-demanded g c = λ demand follows. search (rules, first_more, get_or_default)
