-- Settling in words: routes of the plan are taken one by one, in any order.
use Rattle.std.specs.Prelude.{◌≡◌, ℕ, ◌<◌, Bool, true, false, ◌⊎◌, List, slice_index_or, slice_set}
use Rattle.field.specs.Meaning.{Meaning}
use Rattle.sheets.specs.declared.sheet.Sheets.{Sheets}
use Rattle.sheets.specs.Reading.{route_count}
use Rattle.holds.specs.declared.interlocking.Interlocking.{Interlocking}
use Rattle.holds.specs.declared.state.RouteState.{RouteState}
use Rattle.holds.specs.declared.state.RouteState.TheVariants.{Absent, Waiting, Clear, Dropped}
use Rattle.holds.specs.States.{stands}
use Rattle.holds.specs.Interlockings.{state_of}
use Rattle.readiness.specs.Readiness.{ready}
use Rattle.readiness.specs.Settling.{settled}

-- A readiness tells of each route whether it is ready, and looks at the states alone.
abbrev pub Readiness : Type 0
Readiness = List RouteState → ℕ → Bool

-- The state of a route.
abbrev pub at : List RouteState → ℕ → RouteState
at ss k = slice_index_or ss k Absent

-- A route of the first n that is in one state, ready or not as is asked, is taken into another, and then another route.
pub data Taking (from to : RouteState) (ready : Bool) (R : Readiness) (n : ℕ) (ss : List RouteState) : List RouteState → Type 0 where
  none_taken : Taking from to ready R n ss ss
  one_taken :
      {tt : List RouteState} → Taking from to ready R n ss tt → (k : ℕ) → k < n → at tt k ≡ from → R tt k ≡ ready
      → Taking from to ready R n ss (slice_set tt k to)

-- Clear routes that are not ready are dropped.
abbrev pub Dropping : Readiness → ℕ → List RouteState → List RouteState → Type 0
Dropping = Taking Clear Dropped false

-- Waiting routes that are ready are cleared.
abbrev pub Raising : Readiness → ℕ → List RouteState → List RouteState → Type 0
Raising = Taking Waiting Clear true

-- Every clear route of the first n is ready.
abbrev pub AllReady : Readiness → ℕ → List RouteState → Type 0
AllReady R n ss = (k : ℕ) → k < n → at ss k ≡ Clear → R ss k ≡ true

-- No waiting route of the first n is ready.
abbrev pub NoneReady : Readiness → ℕ → List RouteState → Type 0
NoneReady R n ss = (k : ℕ) → k < n → at ss k ≡ Waiting → R ss k ≡ false

-- Clear routes are dropped until every clear route is ready; then waiting routes are raised until none of them is ready.
pub record Settles (R : Readiness) (n : ℕ) (before after : List RouteState) : Type 0 where
  pub between : List RouteState
  pub dropping : Dropping R n before between
  pub all : AllReady R n between
  pub raising : Raising R n between after
  pub left : NoneReady R n after

-- Other states, and the same holds.
abbrev pub with_states : Interlocking → List RouteState → Interlocking
with_states i ss = record { holds = i.holds; states = ss }

-- The readiness of the routes of a plan, as a matter of the states.
abbrev pub ready_in : Sheets → Meaning → Interlocking → Readiness
ready_in t m i ss r = ready t (with_states i ss) m r

-- What settling has done: every clear route of the plan is ready and no waiting one is; a route has the state that it had,
-- or was clear and is dropped, or was waiting and is clear; so who stands is the same, and the holds are as they were.
pub record Rested (t : Sheets) (m : Meaning) (before after : Interlocking) : Type 0 where
  pub clear : (r : ℕ) → r < route_count t → state_of after r ≡ Clear → ready t after m r ≡ true
  pub waiting : (r : ℕ) → r < route_count t → state_of after r ≡ Waiting → ready t after m r ≡ false
  pub changes :
      (r : ℕ)
      → (state_of after r ≡ state_of before r)
      ⊎ ((state_of before r ≡ Clear) × (state_of after r ≡ Dropped))
      ⊎ ((state_of before r ≡ Waiting) × (state_of after r ≡ Clear))
  pub stand : (r : ℕ) → stands (state_of after r) ≡ stands (state_of before r)
  pub holds : after.holds ≡ before.holds

-- A station settles so; whichever routes are taken first, what comes of it is one and the same.
abbrev pub SettlingIsExact : Type 0
SettlingIsExact =
    (t : Sheets) (m : Meaning) (i : Interlocking)
    → Rested t m i (settled t m i)
    × Settles (ready_in t m i) (route_count t) i.states (settled t m i).states
    × ((after : List RouteState) → Settles (ready_in t m i) (route_count t) i.states after → after ≡ (settled t m i).states)
