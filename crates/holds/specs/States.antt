-- The states of a route and how they change.
use Rattle.std.specs.Prelude.{ℕ, Bool, true, false, List, codes}
use Rattle.holds.specs.declared.state.RouteState.{RouteState}
use Rattle.holds.specs.declared.state.RouteState.TheVariants as state
use Rattle.holds.specs.declared.state.RouteAct.{RouteAct}
use Rattle.holds.specs.declared.state.RouteAct.TheVariants as route_act

-- The number of each state.
abbrev pub state_number : RouteState → ℕ
state_number state.Absent = 0
state_number state.Waiting = 1
state_number state.Clear = 2
state_number state.Dropped = 3

-- The word for each state.
abbrev pub state_word : RouteState → List ℕ
state_word state.Absent = codes "absent"
state_word state.Waiting = codes "waiting"
state_word state.Clear = codes "clear"
state_word state.Dropped = codes "dropped"

-- All but absent stand.
abbrev pub stands : RouteState → Bool
stands state.Absent = false
stands state.Waiting = true
stands state.Clear = true
stands state.Dropped = true

abbrev pub is_waiting : RouteState → Bool
is_waiting state.Absent = false
is_waiting state.Waiting = true
is_waiting state.Clear = false
is_waiting state.Dropped = false

abbrev pub is_clear : RouteState → Bool
is_clear state.Absent = false
is_clear state.Waiting = false
is_clear state.Clear = true
is_clear state.Dropped = false

-- A clear route that is not ready becomes dropped.
abbrev pub falls : RouteState → Bool → RouteState
falls state.Absent ready = state.Absent
falls state.Waiting ready = state.Waiting
falls state.Clear true = state.Clear
falls state.Clear false = state.Dropped
falls state.Dropped ready = state.Dropped

-- A waiting route that is ready becomes clear.
abbrev pub rises : RouteState → Bool → RouteState
rises state.Absent ready = state.Absent
rises state.Waiting true = state.Clear
rises state.Waiting false = state.Waiting
rises state.Clear ready = state.Clear
rises state.Dropped ready = state.Dropped

-- A clear makes a dropped route wait again, and leaves any other as it is.
abbrev pub waits_again : RouteState → RouteState
waits_again state.Absent = state.Absent
waits_again state.Waiting = state.Waiting
waits_again state.Clear = state.Clear
waits_again state.Dropped = state.Waiting

-- A set makes a route wait, a clear makes a dropped one wait again, and a release makes it absent.
abbrev pub after : RouteState → RouteAct → RouteState
after x route_act.Set = state.Waiting
after x route_act.Clear = waits_again x
after x route_act.Release = state.Absent
