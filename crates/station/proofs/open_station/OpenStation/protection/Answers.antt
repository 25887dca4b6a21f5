use Rattle.plan.proofs.PlansExact.{plan_is_sound}
use Rattle.station.proofs.ShieldsExact.{shields_exact, open_branches_exact}
use Rattle.station.proofs.open_station.OpenStation.protection.Goals as goal

pub returns-clause-requested : goal.returns-clause-requested
returns-clause-requested g c = shields_exact _ (plan_is_sound c.args.self.now.plan)

pub returns-clause-open : goal.returns-clause-open
returns-clause-open g c = open_branches_exact _ (plan_is_sound c.args.self.now.plan)
