-- What an act makes of the situation.
use Rattle.std.specs.Prelude.{List, [], Some, None, Option, ◌==◌}
use Rattle.layout.specs.Numbers.{position_with}
use Rattle.field.specs.Meaning.{Meaning, told_report, told_block, told_lamp, told_occupation}
use Rattle.refusals.specs.declared.refusal.Refusal.{Refusal}
use Rattle.sheets.specs.declared.sheet.Sheets.{Sheets}
use Rattle.sheets.specs.Reading.{route_sheet}
use Rattle.holds.specs.declared.interlocking.Interlocking.{Interlocking}
use Rattle.holds.specs.Granting.{taken_up, tried_again, given_up}
use Rattle.readiness.specs.Settling.{settled}
use Rattle.acts.specs.declared.act.Act.{Act}
use Rattle.acts.specs.declared.act.Act.TheVariants as act
use Rattle.acts.specs.declared.act.Event.{Event}
use Rattle.acts.specs.declared.act.Event.TheVariants as event
use Rattle.acts.specs.Situations.{Situation, situation}
use Rattle.acts.specs.Orders.{sent, Order, orders}
use Rattle.acts.specs.Answers.{answer}

-- An event tells the field; a report is the position with its number, and any other number is no control; 1 is blocked, burning, occupied.
abbrev pub told : Meaning → Event → Meaning
told m (event.Report e v) = told_report m e (position_with v)
told m (event.Block e v) = told_block m e (v == 1)
told m (event.Lamp e v) = told_lamp m e (v == 1)
told m (event.Occupation x v) = told_occupation m x (v == 1)

-- The holds and states, once an act has done its own step.
abbrev pub stepped : Sheets → Interlocking → Act → Interlocking
stepped t i (act.Set r) = taken_up (route_sheet t r) r i
stepped t i (act.Clear r) = tried_again (route_sheet t r) r i
stepped t i (act.Release r) = given_up r i
stepped t i (act.Tell v) = i

-- What the field then means: a set and a clear send orders, an event is told.
abbrev pub meant_after : Sheets → Interlocking → Meaning → Act → Meaning
meant_after t j m (act.Set r) = sent t j r m 96
meant_after t j m (act.Clear r) = sent t j r m 96
meant_after t j m (act.Release r) = m
meant_after t j m (act.Tell v) = told m v

-- What the act's own step makes of the situation.
abbrev pub after : Sheets → Situation → Act → Situation
after t s a = situation (stepped t s.inner a) (meant_after t (stepped t s.inner a) s.meant a)

abbrev pub settle : Sheets → Situation → Situation
settle t s = situation (settled t s.meant s.inner) s.meant

-- A refused act changes nothing; after an accepted one, all settles.
abbrev pub unless : Option Refusal → Sheets → Situation → Situation → Situation
unless None t before stepped = settle t stepped
unless (Some x) t before stepped = before

-- The situation after an act.
abbrev pub performed : Sheets → Situation → Act → Situation
performed t s a = unless (answer t s a) t s (after t s a)

-- The orders that an act sends, one after another; a refused act sends none.
abbrev pub step_orders : Sheets → Situation → Act → List Order
step_orders t s (act.Set r) = orders t (stepped t s.inner (act.Set r)) r s.meant 96
step_orders t s (act.Clear r) = orders t (stepped t s.inner (act.Clear r)) r s.meant 96
step_orders t s (act.Release r) = []
step_orders t s (act.Tell v) = []

abbrev pub orders_unless : Option Refusal → List Order → List Order
orders_unless None os = os
orders_unless (Some x) os = []

abbrev pub orders_sent : Sheets → Situation → Act → List Order
orders_sent t s a = orders_unless (answer t s a) (step_orders t s a)
