use Rattle.plan.proofs.FaultsExact.{faults_exact}
use Rattle.plan.proofs.plan.Plan.read.Goals as goal

pub returns-in_err-drawing-clause-first : goal.returns-in_err-drawing-clause-first
returns-in_err-drawing-clause-first c = faults_exact

pub returns-clause-first : goal.returns-clause-first
returns-clause-first c = faults_exact
