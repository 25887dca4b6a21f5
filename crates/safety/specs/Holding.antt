-- What routes hold.
use Rattle.std.specs.Prelude.{ℕ, ◌⊎◌, List}
use Rattle.layout.specs.declared.drawing.Drawing.{Drawing}
use Rattle.layout.specs.declared.position.Position.{Position}
use Rattle.walks.specs.Walks.{Requested}
use Rattle.plan.specs.Flanks.{route_of}
use Rattle.sheetlaws.specs.Routes.{elements_of}
use Rattle.sheetlaws.specs.Needed.{Needs}
use Rattle.field.specs.Meaning.{Meaning}
use Rattle.acts.specs.declared.act.Act.{Act}
use Rattle.acts.specs.Situations.{Situation}
use Rattle.safety.specs.Words.{run, Standing, Holds}

-- A route that stands holds every element that it needs, in the position in which it needs it. It holds an element only while it stands,
-- and only in a position in which it needs or requests the element. So a route that does not stand holds nothing.
pub record Holding (d : Drawing) (s : Situation) (r : ℕ) : Type 0 where
  pub needed : Standing s r → (e : ℕ) (p : Position) → Needs (elements_of d) (route_of d r) e p → Holds s r e p
  pub only :
      (e : ℕ) (p : Position) → Holds s r e p
      → Standing s r × (Needs (elements_of d) (route_of d r) e p ⊎ Requested (elements_of d) (route_of d r) e p)

-- After the acts of every run, every route holds so.
abbrev pub HoldsExactly : Drawing → Type 0
HoldsExactly d = (m : Meaning) (acts : List Act) (r : ℕ) → Holding d (run d m acts) r
