-- When a route is ready, in words, and what every accepted act leaves settled.
use Rattle.std.specs.Prelude.{◌≡◌, ℕ, true, false, ◌≢◌, ◌⊎◌, List, take, Some, None}
use Rattle.field.specs.Meaning.{Meaning, burning_of}
use Rattle.sheets.specs.declared.sheet.Sheets.{Sheets}
use Rattle.sheets.specs.Reading.{route_sheet, has_route}
use Rattle.holds.specs.declared.interlocking.Interlocking.{Interlocking}
use Rattle.holds.specs.declared.state.RouteState.TheVariants.{Waiting, Clear, Dropped}
use Rattle.holds.specs.Interlockings.{state_of}
use Rattle.holds.specs.Aspects.{permissive}
use Rattle.readiness.specs.Readiness.{ready}
use Rattle.acts.specs.declared.act.Act.{Act}
use Rattle.acts.specs.Situations.{Situation, situation}
use Rattle.acts.specs.Answers.{answer}
use Rattle.acts.specs.Acts.{stepped, performed}
use Rattle.runlaws.specs.Lawful.{Lawful}
use Rattle.runlaws.specs.SheetLaw.{run, Guarded}

-- A route is guarded, and the signal whose lamp is to be proved at its end, if there is one, burns or is permissive.
pub record ReadyIn (t : Sheets) (i : Interlocking) (m : Meaning) (a : ℕ) : Type 0 where
  pub guarded : Guarded t (situation i m) a
  pub lamp : (l : ℕ) → (route_sheet t a).end_lamp ≡ Some l → (burning_of m l ≡ true) ⊎ (permissive t i l ≡ true)

-- A route of the plan is ready exactly if it is so.
abbrev pub ReadyExactly : Type 0
ReadyExactly =
    (t : Sheets) → Lawful t → (i : Interlocking) (m : Meaning) (a : ℕ) → has_route t a ≡ true
    → (ready t i m a ≡ true → ReadyIn t i m a) × (ReadyIn t i m a → ready t i m a ≡ true)

-- After the act every clear route is ready, and no waiting route of the plan is; a route that the act's own step did not leave dropped
-- is dropped only if that step left it clear.
pub record LeftSettled (t : Sheets) (step : Interlocking) (after : Situation) : Type 0 where
  pub clear : (r : ℕ) → state_of after.inner r ≡ Clear → ready t after.inner after.meant r ≡ true
  pub waiting : (r : ℕ) → has_route t r ≡ true → state_of after.inner r ≡ Waiting → ready t after.inner after.meant r ≡ false
  pub dropped : (r : ℕ) → state_of after.inner r ≡ Dropped → state_of step r ≢ Dropped → state_of step r ≡ Clear

-- Every accepted act of every run leaves all settled so.
abbrev pub SettledAfter : Type 0
SettledAfter =
    (t : Sheets) → Lawful t → (m : Meaning) (acts : List Act) (n : ℕ) (act : Act) → answer t (run t m (take n acts)) act ≡ None
    → LeftSettled t (stepped t (run t m (take n acts)).inner act) (performed t (run t m (take n acts)) act)
