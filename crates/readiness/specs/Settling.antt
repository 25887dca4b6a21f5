-- What settles after every accepted act: clear routes are dropped, and then waiting ones raised, as it is due.
use Rattle.std.specs.Prelude.{ℕ, zero, suc, Bool, true, false, cond, not, ◌||◌}
use Rattle.std.specs.List.{list_all, enumerate_from}
use Rattle.bounded.specs.Lists.{listed}
use Rattle.field.specs.Meaning.{Meaning}
use Rattle.sheets.specs.declared.sheet.RouteSheet.{RouteSheet}
use Rattle.sheets.specs.declared.sheet.Sheets.{Sheets}
use Rattle.sheets.specs.Reading.{route_count, route_sheet}
use Rattle.holds.specs.declared.interlocking.Interlocking.{Interlocking}
use Rattle.holds.specs.declared.state.RouteState.{RouteState}
use Rattle.holds.specs.States.{is_waiting, is_clear, falls, rises}
use Rattle.holds.specs.Interlockings.{state_of, with_state}
use Rattle.readiness.specs.declared.settling.Settling.{Settling}
use Rattle.readiness.specs.declared.settling.Settling.TheVariants.{Dropping, Raising}
use Rattle.readiness.specs.Readiness.{sheet_ready}

-- Dropping concerns clear routes, raising waiting ones.
abbrev pub concerns : Settling → RouteState → Bool
concerns Dropping s = is_clear s
concerns Raising s = is_waiting s

-- Dropping leaves a route that is ready, raising one that is not.
abbrev pub leaves : Settling → Bool → Bool
leaves Dropping ready = ready
leaves Raising ready = not ready

-- The state of a route, ready or not, once it is settled: a clear route that is not ready is dropped, a waiting one that is ready is clear.
abbrev pub state_after : Settling → RouteState → Bool → RouteState
state_after Dropping s ready = falls s ready
state_after Raising s ready = rises s ready

-- A route that is concerned takes the state after the drop or the raise.
abbrev pub settle_one : Settling → Sheets → Meaning → Interlocking → RouteSheet → ℕ → Interlocking
settle_one w t m i s r =
    cond (concerns w (state_of i r)) (with_state i r (state_after w (state_of i r) (sheet_ready t s i m r))) i

-- A pass over the first n routes, in their order.
unfoldable pub pass : Settling → Sheets → Meaning → Interlocking → ℕ → Interlocking
pass w t m i zero = i
pass w t m i (suc n) = settle_one w t m (pass w t m i n) (route_sheet t n) n

-- A route, if concerned, is to be left as it is.
abbrev pub stays : Settling → Sheets → Meaning → Interlocking → RouteSheet → ℕ → Bool
stays w t m i s r = not (concerns w (state_of i r)) || leaves w (sheet_ready t s i m r)

-- Nothing is left to do: when dropping, every clear route is ready; when raising, no waiting one is.
abbrev pub all_stay : Settling → Sheets → Meaning → Interlocking → Bool
all_stay w t m i = list_all (λ (p : ℕ × RouteSheet). stays w t m i p.1 p.0) (enumerate_from 0 (listed t.routes))

-- Passes until nothing is left to do, n at the most.
unfoldable pub passes_until : Settling → Sheets → Meaning → Interlocking → ℕ → Interlocking
passes_until w t m i zero = i
passes_until w t m i (suc n) = elim (all_stay w t m i) [ true ↦ i | false ↦ passes_until w t m (pass w t m i (route_count t)) n ]

-- Clear routes are dropped until every clear route is ready, then waiting routes are raised until none of them is ready.
-- A pass is made only where something is left to do, and then changes a route; so as many passes as there are routes are enough.
abbrev pub settled : Sheets → Meaning → Interlocking → Interlocking
settled t m i = passes_until Raising t m (passes_until Dropping t m i (route_count t)) (route_count t)
