-- Which requests are granted, and by which acts a route comes to hold what it holds.
use Rattle.std.specs.Prelude.{◌≡◌, ℕ, false, ◌⊎◌, List, None}
use Rattle.layout.specs.declared.drawing.Drawing.{Drawing}
use Rattle.layout.specs.declared.position.Position.{Position}
use Rattle.walks.specs.Walks.{Requested}
use Rattle.sheets.specs.Sheets.{sheets_of}
use Rattle.plan.specs.Flanks.{route_of}
use Rattle.sheetlaws.specs.Routes.{Exactly, elements_of}
use Rattle.sheetlaws.specs.Needed.{Needs}
use Rattle.field.specs.Meaning.{Meaning}
use Rattle.holds.specs.Interlockings.{hold_of, held_by}
use Rattle.acts.specs.declared.act.Act.{Act}
use Rattle.acts.specs.Situations.{Situation}
use Rattle.acts.specs.Answers.{answer}
use Rattle.acts.specs.Acts.{performed}
use Rattle.safety.specs.Words.{run, Holds, SetsOrClears}

-- The route r may have the element e in the position p at its flank: the element is held by nobody, or held in that position; and if the route
-- itself needs the element, it needs it in that position.
pub record MayHave (d : Drawing) (s : Situation) (r e : ℕ) (p : Position) : Type 0 where
  pub room : ((q : ℕ) → held_by s.inner q e ≡ false) ⊎ ((hold_of s.inner e).position ≡ p)
  pub alike : (q : Position) → Needs (elements_of d) (route_of d r) e q → q ≡ p

-- After every run, a set or a clear of a route that is accepted grants exactly those of the route's requests that may be granted:
-- the route then holds the element in the position in which it requests it. Nothing is asked of the field.
abbrev pub GrantsExactly : Drawing → Type 0
GrantsExactly d =
    (m : Meaning) (acts : List Act) (a : Act) (r e : ℕ) (p : Position)
    → SetsOrClears r a → answer (sheets_of d) (run d m acts) a ≡ None → Requested (elements_of d) (route_of d r) e p
    → Exactly (Holds (performed (sheets_of d) (run d m acts) a) r e p) (MayHave d (run d m acts) r e p)

-- A route comes to hold an element by no act but a set or a clear of the route itself, whatever the situation.
abbrev pub GrantedBySetOrClear : Drawing → Type 0
GrantedBySetOrClear d =
    (s : Situation) (a : Act) (r e : ℕ) (p : Position)
    → (SetsOrClears r a → ⊥) → Holds (performed (sheets_of d) s a) r e p → Holds s r e p
