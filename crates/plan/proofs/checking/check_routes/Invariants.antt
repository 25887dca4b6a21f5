use Rattle.std.proofs.Common.{◌≡◌, ◌-◌, length}
use Rattle.plan.specs.Checks.{first_fault, route_fault_at}
use Rattle.plan.proofs.checking.check_routes.Given as goal

abbrev pub invariant-loop-number : goal.invariant-loop-number
invariant-loop-number l = first_fault (route_fault_at l.elements l.routes) (length l.routes) 0 ≡ first_fault (route_fault_at l.elements l.routes) (length l.routes - l.number) l.number
