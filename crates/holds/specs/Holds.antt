-- The hold of one element: a position, and the routes that hold the element in it.
use Rattle.std.specs.Prelude.{ℕ, Bool, ◌&&◌, ◌||◌}
use Rattle.layout.specs.declared.position.Position.{Position}
use Rattle.layout.specs.declared.position.Position.TheVariants as position
use Rattle.holds.specs.declared.hold.Hold.{Hold}
use Rattle.holds.specs.Positions.{same}
use Rattle.holds.specs.RouteSets.{no_routes, contains, with_route, without_route, is_empty}

-- A hold of nobody; its position means nothing.
abbrev pub free_hold : Hold
free_hold = record { position = position.Plus; routes = no_routes }

-- A route joins, and the position is written.
abbrev pub granted : Hold → ℕ → Position → Hold
granted h r p = record { position = p; routes = with_route h.routes r }

-- A route leaves, and the position stays.
abbrev pub left_by : Hold → ℕ → Hold
left_by h r = record { position = h.position; routes = without_route h.routes r }

-- Held by a route, in a position.
abbrev pub held_in : Hold → ℕ → Position → Bool
held_in h r p = contains h.routes r && same h.position p

-- Held by nobody, or in this position.
abbrev pub open_to : Hold → Position → Bool
open_to h p = is_empty h.routes || same h.position p
