-- When a route is ready, and what every accepted act leaves settled.
use Rattle.std.specs.Prelude.{◌≡◌, ℕ, true, ◌≢◌, ◌⊎◌, None}
use Rattle.layout.specs.declared.drawing.Drawing.{Drawing}
use Rattle.sheets.specs.Sheets.{sheets_of}
use Rattle.sheetlaws.specs.Routes.{HasRoute}
use Rattle.sheetlaws.specs.Ends.{ProvesLamp}
use Rattle.field.specs.Meaning.{burning_of}
use Rattle.holds.specs.declared.state.RouteState.TheVariants as state
use Rattle.holds.specs.Interlockings.{state_of}
use Rattle.readiness.specs.Readiness.{ready}
use Rattle.acts.specs.declared.act.Act.{Act}
use Rattle.acts.specs.Situations.{Situation}
use Rattle.acts.specs.Answers.{answer}
use Rattle.acts.specs.Acts.{performed}
use Rattle.safety.specs.Words.{SignalPermissive}
use Rattle.safety.specs.Law.{Guarded}

-- A route is guarded, and the signal whose lamp is to be proved at its end, if there is one, burns or is permissive.
pub record Ready (d : Drawing) (s : Situation) (a : ℕ) : Type 0 where
  pub guarded : Guarded d s a
  pub lamp : (l : ℕ) → ProvesLamp d a l → (burning_of s.meant l ≡ true) ⊎ SignalPermissive d s l

-- The station finds a route of the plan ready exactly if it is so.
abbrev pub ReadyExactly : Drawing → Type 0
ReadyExactly d =
    (s : Situation) (a : ℕ) → HasRoute d a
    → (ready (sheets_of d) s.inner s.meant a ≡ true → Ready d s a)
    × (Ready d s a → ready (sheets_of d) s.inner s.meant a ≡ true)

-- After an act every clear route of the plan is ready, and no waiting one is. A route that was not dropped before the act
-- is dropped only if it was clear.
pub record LeftSettled (d : Drawing) (before after : Situation) : Type 0 where
  pub clear : (r : ℕ) → HasRoute d r → state_of after.inner r ≡ state.Clear → Ready d after r
  pub waiting : (r : ℕ) → HasRoute d r → state_of after.inner r ≡ state.Waiting → Ready d after r → ⊥
  pub dropped :
      (r : ℕ) → state_of after.inner r ≡ state.Dropped → state_of before.inner r ≢ state.Dropped
      → state_of before.inner r ≡ state.Clear

-- Every accepted act leaves all settled so, whatever the situation before it.
abbrev pub SettledAfter : Drawing → Type 0
SettledAfter d =
    (s : Situation) (a : Act) → answer (sheets_of d) s a ≡ None → LeftSettled d s (performed (sheets_of d) s a)
