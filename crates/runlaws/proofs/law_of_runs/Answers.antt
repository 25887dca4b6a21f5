use Rattle.runlaws.proofs.Runs.{law_holds}
use Rattle.runlaws.proofs.law_of_runs.Goals as goal

pub returns : goal.returns
returns c = law_holds
