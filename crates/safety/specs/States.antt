-- When a route stands after an act, and when a dropped one is still dropped.
use Rattle.std.specs.Prelude.{◌≡◌, ℕ, ◌≢◌, ◌⊎◌, List, None}
use Rattle.layout.specs.declared.drawing.Drawing.{Drawing}
use Rattle.sheets.specs.Sheets.{sheets_of}
use Rattle.sheetlaws.specs.Routes.{Exactly}
use Rattle.field.specs.Meaning.{Meaning}
use Rattle.holds.specs.declared.state.RouteState.TheVariants as state
use Rattle.holds.specs.Interlockings.{state_of}
use Rattle.acts.specs.declared.act.Act.{Act}
use Rattle.acts.specs.declared.act.Act.TheVariants as act
use Rattle.acts.specs.Situations.{Situation}
use Rattle.acts.specs.Answers.{answer}
use Rattle.acts.specs.Acts.{performed}
use Rattle.safety.specs.Words.{run, Standing}

-- After every run, a route stands after one more act exactly if the act is a set of it that is accepted, or the route stood before
-- and the act is no release of it that is accepted. So only a set makes a route stand, and only a release ends it:
-- no event, no other route and no refused act does.
abbrev pub StandsExactly : Drawing → Type 0
StandsExactly d =
    (m : Meaning) (acts : List Act) (a : Act) (r : ℕ)
    → Exactly (Standing (performed (sheets_of d) (run d m acts) a) r)
    (((a ≡ act.Set r) × (answer (sheets_of d) (run d m acts) a ≡ None))
    ⊎ (Standing (run d m acts) r × (a ≡ act.Release r → answer (sheets_of d) (run d m acts) a ≢ None)))

-- In every situation, a dropped route is dropped after an act exactly if the act is no clear of it that is accepted and no release of it
-- that is accepted. So a route that was dropped is not clear again, whatever the field tells, before it is cleared once more.
abbrev pub DroppedStays : Drawing → Type 0
DroppedStays d =
    (s : Situation) (a : Act) (r : ℕ) → state_of s.inner r ≡ state.Dropped
    → Exactly (state_of (performed (sheets_of d) s a).inner r ≡ state.Dropped)
    ((a ≡ act.Clear r → answer (sheets_of d) s a ≢ None) × (a ≡ act.Release r → answer (sheets_of d) s a ≢ None))
