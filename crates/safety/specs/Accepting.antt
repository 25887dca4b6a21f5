-- When a clear, a release and an event are accepted.
use Rattle.std.specs.Prelude.{◌≡◌, ℕ, ◌<◌, false, length, Some, None}
use Rattle.layout.specs.declared.drawing.Drawing.{Drawing}
use Rattle.layout.specs.declared.kind.Kind.TheVariants as kind
use Rattle.layout.specs.Ports.{at}
use Rattle.layout.specs.Uses.{UsesSectionInPath}
use Rattle.sheets.specs.Sheets.{sheets_of}
use Rattle.plan.specs.Flanks.{route_of}
use Rattle.sheetlaws.specs.Routes.{Exactly, elements_of, HasRoute}
use Rattle.field.specs.Meaning.{occupied_of}
use Rattle.acts.specs.declared.act.Act.TheVariants as act
use Rattle.acts.specs.declared.act.Event.{Event}
use Rattle.acts.specs.declared.act.Event.TheVariants as event
use Rattle.acts.specs.Situations.{Situation}
use Rattle.acts.specs.Answers.{answer}
use Rattle.safety.specs.Words.{Standing, Moved}

-- A clear is accepted exactly if the route is of the plan and stands, in every situation. No want of protection refuses it.
abbrev pub ClearExactly : Drawing → Type 0
ClearExactly d = (s : Situation) (r : ℕ) → Exactly (answer (sheets_of d) s (act.Clear r) ≡ None) (HasRoute d r × Standing s r)

-- A release is accepted exactly if the route is of the plan and stands, and every section that its path uses is free, in every situation.
-- A section of its overlap alone may be occupied.
abbrev pub ReleaseExactly : Drawing → Type 0
ReleaseExactly d =
    (s : Situation) (r : ℕ)
    → Exactly (answer (sheets_of d) s (act.Release r) ≡ None)
    (HasRoute d r × Standing s r × ((x : ℕ) → UsesSectionInPath (elements_of d) (route_of d r) x → occupied_of s.meant x ≡ false))

-- Some element of the plan lies in the section x.
pub record HasSection (d : Drawing) (x : ℕ) : Type 0 where
  pub element : ℕ
  pub within : element < length (elements_of d)
  pub lies : (at (elements_of d) element).section ≡ Some x

-- An event names something of the plan, and its value is in its range: a point or derailer reports 0, 1 or 2, and is blocked or not, 1 or 0;
-- the stop lamp of a signal burns or not, 1 or 0; a section in which some element lies is occupied or not, 1 or 0.
pub data OfThePlan (d : Drawing) : Event → Type 0 where
  report : {e v : ℕ} → Moved (elements_of d) e → v < 3 → OfThePlan d (event.Report e v)
  block : {e v : ℕ} → Moved (elements_of d) e → v < 2 → OfThePlan d (event.Block e v)
  lamp : {e v : ℕ} → (at (elements_of d) e).kind ≡ kind.Signal → v < 2 → OfThePlan d (event.Lamp e v)
  occupation : {x v : ℕ} → HasSection d x → v < 2 → OfThePlan d (event.Occupation x v)

-- An event is accepted exactly if it is of the plan, in every situation. Nothing that is held or stands refuses it.
abbrev pub EventExactly : Drawing → Type 0
EventExactly d = (s : Situation) (v : Event) → Exactly (answer (sheets_of d) s (act.Tell v) ≡ None) (OfThePlan d v)
