use Rattle.std.proofs.Common.{refl}
use Rattle.walks.proofs.Exactly.{requests_exact, branches_exact}
use Rattle.walks.proofs.Ascending.{requests_ascend, branches_ascend}
use Rattle.plan.proofs.PlansExact.{checks_exact, plan_is_sound}
use Rattle.plan.proofs.plan.Plan.drawing.Goals as goal

pub returns : goal.returns
returns c = record {
  drawing = refl;
  sound = plan_is_sound c.args.self.now;
  exact = checks_exact;
  requests = requests_exact;
  branches = branches_exact;
  requests_order = requests_ascend;
  branches_order = branches_ascend;
}
