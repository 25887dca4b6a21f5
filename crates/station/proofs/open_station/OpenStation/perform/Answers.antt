use Rattle.plan.proofs.PlansExact.{plan_is_sound}
use Rattle.runlaws.proofs.Orderless.{settling_exact}
use Rattle.safety.proofs.SetExact.{set_exactly, same_on_every_field, refused_changes_nothing}
use Rattle.safety.proofs.ReadyExact.{ready_exactly}
use Rattle.safety.proofs.SettledExact.{settled_after}
use Rattle.safety.proofs.StatesExact.{dropped_stays}
use Rattle.safety.proofs.AcceptExact.{clear_exactly, release_exactly, event_exactly}
use Rattle.safety.proofs.GrantsExact.{granted_by_set_or_clear}
use Rattle.safety.proofs.RefusedExact.{set_refused, clear_refused_exactly, release_refused_exactly, event_refused_exactly}
use Rattle.station.proofs.open_station.OpenStation.perform.Goals as goal

pub returns-clause-set : goal.returns-clause-set
returns-clause-set g c = set_exactly _ (plan_is_sound c.args.self.now.plan)

pub returns-clause-field : goal.returns-clause-field
returns-clause-field g c = same_on_every_field _ (plan_is_sound c.args.self.now.plan)

pub returns-clause-refused : goal.returns-clause-refused
returns-clause-refused g c = refused_changes_nothing _ (plan_is_sound c.args.self.now.plan)

pub returns-clause-ready : goal.returns-clause-ready
returns-clause-ready g c = ready_exactly _ (plan_is_sound c.args.self.now.plan)

pub returns-clause-settled : goal.returns-clause-settled
returns-clause-settled g c = settled_after _ (plan_is_sound c.args.self.now.plan)

pub returns-clause-dropped : goal.returns-clause-dropped
returns-clause-dropped g c = dropped_stays _ (plan_is_sound c.args.self.now.plan)

pub returns-clause-clear : goal.returns-clause-clear
returns-clause-clear g c = clear_exactly _ (plan_is_sound c.args.self.now.plan)

pub returns-clause-release : goal.returns-clause-release
returns-clause-release g c = release_exactly _ (plan_is_sound c.args.self.now.plan)

pub returns-clause-event : goal.returns-clause-event
returns-clause-event g c = event_exactly _ (plan_is_sound c.args.self.now.plan)

pub returns-clause-refusals : goal.returns-clause-refusals
returns-clause-refusals g c = set_refused _ (plan_is_sound c.args.self.now.plan)

pub returns-clause-clear_refused : goal.returns-clause-clear_refused
returns-clause-clear_refused g c = clear_refused_exactly _ (plan_is_sound c.args.self.now.plan)

pub returns-clause-release_refused : goal.returns-clause-release_refused
returns-clause-release_refused g c = release_refused_exactly _ (plan_is_sound c.args.self.now.plan)

pub returns-clause-event_refused : goal.returns-clause-event_refused
returns-clause-event_refused g c = event_refused_exactly _ (plan_is_sound c.args.self.now.plan)

pub returns-clause-orderless : goal.returns-clause-orderless
returns-clause-orderless g c = settling_exact

pub returns-clause-granted : goal.returns-clause-granted
returns-clause-granted g c = granted_by_set_or_clear c.args.self.now.plan.drawing
