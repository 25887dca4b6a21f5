-- What is asked of a run on a fresh table: answers, states, holds, orders, aspects. A plan with a fault has none of them.
use Rattle.std.specs.Prelude.{ℕ, Bool, false, List, [], map, Some, None, Ok, Err, Option, Result}
use Rattle.std.specs.Option.{option_map}
use Rattle.faults.specs.declared.fault.Fault.{Fault}
use Rattle.layout.specs.declared.drawing.Drawing.{Drawing}
use Rattle.layout.specs.declared.position.Position.{Position}
use Rattle.refusals.specs.declared.refusal.Refusal.{Refusal}
use Rattle.refusals.specs.Numbers.{number_of}
use Rattle.field.specs.Meaning.{fresh_meaning}
use Rattle.sheets.specs.Sheets.{sheets_of}
use Rattle.holds.specs.declared.aspect.Aspect.{Aspect}
use Rattle.holds.specs.Aspects.{aspect_number}
use Rattle.holds.specs.Holds.{held_in}
use Rattle.holds.specs.Interlockings.{hold_of, state_of}
use Rattle.holds.specs.States.{state_number}
use Rattle.acts.specs.declared.act.Act.{Act}
use Rattle.acts.specs.Questions.{aspect_answer}
use Rattle.acts.specs.Acts.{orders_sent}
use Rattle.acts.specs.Orders.{Order}
use Rattle.acts.specs.Situations.{opened}
use Rattle.safety.specs.Words.{run}
use Rattle.station.specs.declared.journal.Entry.{Entry}
use Rattle.station.specs.Runs.{answered}

-- The number of the aspect in an answer, if there is one.
abbrev pub number_shown : Result Aspect Refusal → Option ℕ
number_shown (Ok aspect) = Some (aspect_number aspect)
number_shown (Err refusal) = None

-- The number of the aspect that a signal shows after some acts.
abbrev pub shows_after : Result Drawing Fault → List Act → ℕ → Option ℕ
shows_after (Ok drawing) acts signal = number_shown (aspect_answer (sheets_of drawing) (run drawing fresh_meaning acts).inner signal)
shows_after (Err fault) acts signal = None

-- An act that is still to be answered.
abbrev pub unanswered : Act → Entry
unanswered act = record { act = act; refusal = None }

-- The number of what an act was answered, none where it was accepted.
abbrev pub number_answered : Entry → Option ℕ
number_answered entry = option_map number_of entry.refusal

-- The numbers of what acts are answered, one after another.
abbrev pub answers_to : Result Drawing Fault → List Act → List (Option ℕ)
answers_to (Ok drawing) acts = map number_answered (answered drawing (opened fresh_meaning) (map unanswered acts))
answers_to (Err fault) acts = []

-- The number of the state of a route after some acts.
abbrev pub state_after : Result Drawing Fault → List Act → ℕ → Option ℕ
state_after (Ok drawing) acts route = Some (state_number (state_of (run drawing fresh_meaning acts).inner route))
state_after (Err fault) acts route = None

-- Whether a route holds an element in a position after some acts.
abbrev pub held_after : Result Drawing Fault → List Act → ℕ → ℕ → Position → Bool
held_after (Ok drawing) acts route element position = held_in (hold_of (run drawing fresh_meaning acts).inner element) route position
held_after (Err fault) acts route element position = false

-- An order to an element.
abbrev pub order : ℕ → Position → Order
order element position = record { element = element; position = position }

-- The orders that an act sends after some acts.
abbrev pub orders_after : Result Drawing Fault → List Act → Act → List Order
orders_after (Ok drawing) acts act = orders_sent (sheets_of drawing) (run drawing fresh_meaning acts) act
orders_after (Err fault) acts act = []
