use Rattle.safety.proofs.StatesExact.{stands_exactly, dropped_stays}
use Rattle.safety.proofs.AcceptExact.{clear_exactly, release_exactly, event_exactly}
use Rattle.safety.proofs.AspectsExact.{aspects_exactly}
use Rattle.safety.proofs.HoldsExact.{holds_exactly}
use Rattle.safety.proofs.OrdersExact.{orders_exactly}
use Rattle.safety.proofs.GrantsExact.{grants_exactly, granted_by_set_or_clear}
use Rattle.safety.proofs.RefusedExact.{set_refused, clear_refused_exactly, release_refused_exactly, event_refused_exactly}
use Rattle.safety.proofs.acts_are_exact.Goals as goal

pub returns-clause-stands : goal.returns-clause-stands
returns-clause-stands c = stands_exactly

pub returns-clause-dropped : goal.returns-clause-dropped
returns-clause-dropped c = dropped_stays

pub returns-clause-clear : goal.returns-clause-clear
returns-clause-clear c = clear_exactly

pub returns-clause-release : goal.returns-clause-release
returns-clause-release c = release_exactly

pub returns-clause-event : goal.returns-clause-event
returns-clause-event c = event_exactly

pub returns-clause-refusals : goal.returns-clause-refusals
returns-clause-refusals c = set_refused

pub returns-clause-aspects : goal.returns-clause-aspects
returns-clause-aspects c = aspects_exactly

pub returns-clause-holds : goal.returns-clause-holds
returns-clause-holds c = holds_exactly

pub returns-clause-orders : goal.returns-clause-orders
returns-clause-orders c = orders_exactly

pub returns-clause-grants : goal.returns-clause-grants
returns-clause-grants c = grants_exactly

pub returns-clause-granted : goal.returns-clause-granted
returns-clause-granted c = granted_by_set_or_clear

pub returns-clause-clear_refused : goal.returns-clause-clear_refused
returns-clause-clear_refused c = clear_refused_exactly

pub returns-clause-release_refused : goal.returns-clause-release_refused
returns-clause-release_refused c = release_refused_exactly

pub returns-clause-event_refused : goal.returns-clause-event_refused
returns-clause-event_refused c = event_refused_exactly
