-- What protects the flanks of a route on a station, and the lists that are filled with it.
use Rattle.std.specs.Prelude.{ℕ, List, map}
use Rattle.layout.specs.declared.element.Element.{Element}
use Rattle.layout.specs.declared.route.Route.{Route}
use Rattle.flank.specs.declared.answers.Branch.{Branch}
use Rattle.flank.specs.declared.answers.Request.{Request}
use Rattle.flank.specs.Protection.{requests_of, branches_of, have_room, list_filled}
use Rattle.holds.specs.declared.interlocking.Interlocking.{Interlocking}
use Rattle.holds.specs.Holds.{held_in}
use Rattle.holds.specs.Interlockings.{hold_of}
use Rattle.protection.specs.declared.shield.Shield.{Shield}

-- A request of the route r, with whether r holds the element in the position requested.
abbrev pub shield_of : Interlocking → ℕ → Request → Shield
shield_of i r q = record { element = q.element; position = q.position; held = held_in (hold_of i q.element) r q.position }

-- What a route requests, by element, each held or not.
abbrev pub shields_of : List Element → Route → Interlocking → ℕ → List Shield
shields_of es drawn i r = map (shield_of i r) (requests_of es drawn)

-- The lists of the caller afterwards: filled from the front, or as they were where one is too short.
abbrev pub shields_told : List Element → Route → Interlocking → ℕ → List Shield → List Branch → List Shield
shields_told es drawn i r shields branches = list_filled (have_room es drawn shields branches) (shields_of es drawn i r) shields

abbrev pub branches_told : List Element → Route → List Shield → List Branch → List Branch
branches_told es drawn shields branches = list_filled (have_room es drawn shields branches) (branches_of es drawn) branches
