use Rattle.safety.proofs.PlanLaw.{plan_law}
use Rattle.safety.proofs.law_of_runs.Goals as goal

pub returns : goal.returns
returns c = plan_law
