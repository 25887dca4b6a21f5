use Rattle.std.proofs.Common.{◌≡◌, ◌-◌, length}
use Rattle.plan.specs.Checks.{Demand, AnswersBy, first_fault, element_fault}
use Rattle.plan.proofs.checking.check_elements.Given as goal

abbrev pub invariant-loop-number : goal.invariant-loop-number
invariant-loop-number g l =
    (demand : Demand) → AnswersBy (goal.F-post g l.is_met) demand
    → first_fault (element_fault l.elements demand l.cause) (length l.elements) 0
    ≡ first_fault (element_fault l.elements demand l.cause) (length l.elements - l.number) l.number
