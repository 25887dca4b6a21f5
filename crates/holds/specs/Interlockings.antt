-- What is read off the holds and states of a station, and one change of each.
use Rattle.std.specs.Prelude.{ℕ, Bool, replicate, slice_index_or, slice_set}
use Rattle.holds.specs.declared.hold.Hold.{Hold}
use Rattle.holds.specs.declared.interlocking.Interlocking.{Interlocking}
use Rattle.holds.specs.declared.state.RouteState.{RouteState}
use Rattle.holds.specs.declared.state.RouteState.TheVariants as state
use Rattle.holds.specs.RouteSets.{contains}
use Rattle.holds.specs.Holds.{free_hold}

-- Nothing is held, and all routes are absent.
unfoldable pub idle : Interlocking
idle = record { holds = replicate 96 free_hold; states = replicate 64 state.Absent }

-- The hold of an element; past the table the hold of nobody.
abbrev pub hold_of : Interlocking → ℕ → Hold
hold_of i e = slice_index_or i.holds e free_hold

-- The state of a route.
abbrev pub state_of : Interlocking → ℕ → RouteState
state_of i r = slice_index_or i.states r state.Absent

-- A route holds an element.
abbrev pub held_by : Interlocking → ℕ → ℕ → Bool
held_by i r e = contains (hold_of i e).routes r

-- Another hold of an element, or another state of a route.
abbrev pub with_hold : Interlocking → ℕ → Hold → Interlocking
with_hold i e h = record { holds = slice_set i.holds e h; states = i.states }

abbrev pub with_state : Interlocking → ℕ → RouteState → Interlocking
with_state i r x = record { holds = i.holds; states = slice_set i.states r x }
