-- What a route itself needs, in the words of the subject, and the theorem that the sheets tell it.
use Rattle.std.specs.Prelude.{◌≡◌, ℕ, ◌<◌, List, Some}
use Rattle.layout.specs.declared.drawing.Drawing.{Drawing}
use Rattle.layout.specs.declared.element.Element.{Element}
use Rattle.layout.specs.declared.kind.Kind.TheVariants as kind
use Rattle.layout.specs.declared.position.Position.{Position}
use Rattle.layout.specs.declared.position.Position.TheVariants as position
use Rattle.layout.specs.declared.route.Route.{Route}
use Rattle.layout.specs.Ports.{at}
use Rattle.layout.specs.Ways.{place}
use Rattle.layout.specs.Uses.{path_of, way_beyond, Uses, PassesIn}
use Rattle.plan.specs.Flanks.{route_of}
use Rattle.plan.specs.Sound.{SoundPlan}
use Rattle.sheetlaws.specs.Routes.{Exactly, elements_of, HasRoute}
use Rattle.sheetlaws.specs.Requests.{want_of}

-- A route needs the first element of its path in minus, each point in the position in which its path,
-- or its overlap beyond the last signal, passes it, and each derailer that it uses in minus.
pub data Needs (es : List Element) (r : Route) (e : ℕ) : Position → Type 0 where
  starts : place (path_of r) 0 ≡ e → Needs es r e position.Minus
  passes_in_path : {p : Position} → PassesIn es (path_of r) e p → Needs es r e p
  passes_in_overlap : {p : Position} → PassesIn es (way_beyond r) e p → Needs es r e p
  derails : Uses es r e → (at es e).kind ≡ kind.Derailer → Needs es r e position.Minus

-- The sheet of a route needs an element in a position exactly if the route does.
abbrev pub NeedsExact : Type 0
NeedsExact =
    (d : Drawing) → SoundPlan d → (i : ℕ) → HasRoute d i → (e : ℕ) → e < 96 → (p : Position)
    → Exactly ((want_of d i e).need ≡ Some p) (Needs (elements_of d) (route_of d i) e p)
