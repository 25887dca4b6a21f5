-- What a station answers of a route and of a signal.
use Rattle.std.specs.Prelude.{ℕ, cond, Ok, Err, Result}
use Rattle.layout.specs.Kinds.{is_signal}
use Rattle.refusals.specs.declared.refusal.Refusal.{Refusal}
use Rattle.refusals.specs.declared.refusal.Refusal.TheVariants as refusal
use Rattle.sheets.specs.declared.sheet.Sheets.{Sheets}
use Rattle.sheets.specs.Reading.{has_route, element_of}
use Rattle.holds.specs.declared.aspect.Aspect.{Aspect}
use Rattle.holds.specs.declared.interlocking.Interlocking.{Interlocking}
use Rattle.holds.specs.declared.state.RouteState.{RouteState}
use Rattle.holds.specs.Interlockings.{state_of}
use Rattle.holds.specs.Aspects.{aspect_of}

-- The state of a route of the plan.
abbrev pub state_answer : Sheets → Interlocking → ℕ → Result RouteState Refusal
state_answer t i r = cond (has_route t r) (Ok (state_of i r)) (Err refusal.NoSuchRoute)

-- The aspect of a signal of the plan.
abbrev pub aspect_answer : Sheets → Interlocking → ℕ → Result Aspect Refusal
aspect_answer t i e = cond (is_signal (element_of t e).kind) (Ok (aspect_of t i e)) (Err refusal.NotOfThePlan)
