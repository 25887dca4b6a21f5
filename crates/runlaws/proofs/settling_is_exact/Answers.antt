use Rattle.runlaws.proofs.Orderless.{settling_exact}
use Rattle.runlaws.proofs.settling_is_exact.Goals as goal

pub returns : goal.returns
returns c = settling_exact
