-- What an act is answered: acceptance, or the first refusal that applies.
use Rattle.std.specs.Prelude.{ℕ, Bool, cond, not, ◌&&◌, Some, None, Option, nat_lt}
use Rattle.layout.specs.Kinds.{is_signal}
use Rattle.field.specs.Meaning.{Meaning, occupied_of}
use Rattle.refusals.specs.declared.refusal.Refusal.{Refusal}
use Rattle.refusals.specs.declared.refusal.Refusal.TheVariants as refusal
use Rattle.sheets.specs.declared.sheet.RouteSheet.{RouteSheet}
use Rattle.sheets.specs.declared.sheet.Sheets.{Sheets}
use Rattle.std.specs.List.{list_all}
use Rattle.sheets.specs.Reading.{has_route, route_sheet, on_path, used_by, element_of, moves, has_section}
use Rattle.holds.specs.declared.interlocking.Interlocking.{Interlocking}
use Rattle.holds.specs.States.{stands}
use Rattle.holds.specs.Interlockings.{state_of}
use Rattle.holds.specs.Refusing.{set_refusal, clear_refusal}
use Rattle.acts.specs.declared.act.Act.{Act}
use Rattle.acts.specs.declared.act.Act.TheVariants as act
use Rattle.acts.specs.declared.act.Event.{Event}
use Rattle.acts.specs.declared.act.Event.TheVariants as event
use Rattle.acts.specs.Situations.{Situation}

-- There is no such route, or what else speaks against the act.
abbrev pub for_route : Sheets → ℕ → Option Refusal → Option Refusal
for_route t r x = cond (has_route t r) x (Some refusal.NoSuchRoute)

-- A section is free, or the path of the route does not use it.
abbrev pub path_free_at : RouteSheet → Meaning → ℕ → Bool
path_free_at s m x = not (on_path s x && occupied_of m x)

-- Every section that the path of a route uses is free.
abbrev pub path_free : RouteSheet → Meaning → Bool
path_free s m = list_all (path_free_at s m) (used_by s)

-- Why a route of the plan may not be released: it does not stand; a section that its path uses is occupied.
abbrev pub release_refusal : RouteSheet → ℕ → Interlocking → Meaning → Option Refusal
release_refusal s r i m =
    cond (stands (state_of i r)) (cond (path_free s m) None (Some refusal.PathOccupied)) (Some refusal.NotStanding)

-- The number is of the plan and of the right kind, and the value is in its range.
abbrev pub is_event : Sheets → Event → Bool
is_event t (event.Report e v) = moves (element_of t e).kind && nat_lt v 3
is_event t (event.Block e v) = moves (element_of t e).kind && nat_lt v 2
is_event t (event.Lamp e v) = is_signal (element_of t e).kind && nat_lt v 2
is_event t (event.Occupation x v) = has_section t x && nat_lt v 2

abbrev pub event_refusal : Sheets → Event → Option Refusal
event_refusal t v = cond (is_event t v) None (Some refusal.NotOfThePlan)

-- The refusal of an act, if there is one.
abbrev pub answer : Sheets → Situation → Act → Option Refusal
answer t s (act.Set r) = for_route t r (set_refusal t (route_sheet t r) r s.inner)
answer t s (act.Clear r) = for_route t r (clear_refusal r s.inner)
answer t s (act.Release r) = for_route t r (release_refusal (route_sheet t r) r s.inner s.meant)
answer t s (act.Tell v) = event_refusal t v
