-- The words of the law over runs: what stands, what is held, how a route passes its elements, what shields, what is ordered, what shows.
use Rattle.std.specs.Prelude.{◌≡◌, ℕ, true, List, Some, Ok, fold}
use Rattle.layout.specs.declared.drawing.Drawing.{Drawing}
use Rattle.layout.specs.declared.element.Element.{Element}
use Rattle.layout.specs.declared.kind.Kind.TheVariants as kind
use Rattle.layout.specs.declared.position.Position.{Position}
use Rattle.layout.specs.declared.position.Position.TheVariants as position
use Rattle.layout.specs.declared.route.Route.{Route}
use Rattle.layout.specs.Ports.{at}
use Rattle.layout.specs.Uses.{path_of, way_beyond, Uses, UsesSection, UsesSectionInPath, PassesIn}
use Rattle.walks.specs.Exactly.{In}
use Rattle.sheets.specs.Sheets.{sheets_of}
use Rattle.plan.specs.Flanks.{route_of}
use Rattle.sheetlaws.specs.Routes.{elements_of}
use Rattle.sheetlaws.specs.Ends.{first_element, EndsAtSignal}
use Rattle.field.specs.Meaning.{Meaning, report_of, burning_of}
use Rattle.holds.specs.declared.aspect.Aspect.{Aspect}
use Rattle.holds.specs.States.{stands}
use Rattle.holds.specs.Interlockings.{hold_of, held_by, state_of}
use Rattle.holds.specs.Aspects.{permits}
use Rattle.acts.specs.declared.act.Act.{Act}
use Rattle.acts.specs.declared.act.Act.TheVariants as act
use Rattle.acts.specs.Situations.{Situation, opened}
use Rattle.acts.specs.Questions.{aspect_answer}
use Rattle.acts.specs.Acts.{performed, orders_sent}

-- The situation of a station that was opened on a plan and on a field, after a list of acts.
abbrev pub run : Drawing → Meaning → List Act → Situation
run d m acts = fold (performed (sheets_of d)) (opened m) acts

-- The route a stands.
abbrev pub Standing : Situation → ℕ → Type 0
Standing s a = stands (state_of s.inner a) ≡ true

-- The route a holds the element e, in the position p.
abbrev pub Holds : Situation → ℕ → ℕ → Position → Type 0
Holds s a e p = (held_by s.inner a e ≡ true) × ((hold_of s.inner e).position ≡ p)

-- An act sets or clears the route r.
pub data SetsOrClears (r : ℕ) : Act → Type 0 where
  sets : SetsOrClears r (act.Set r)
  clears : SetsOrClears r (act.Clear r)

-- The route a uses the section x, in its path or in its overlap.
abbrev pub RouteUses : Drawing → ℕ → ℕ → Type 0
RouteUses d a x = UsesSection (elements_of d) (route_of d a) x

-- The route b begins at the last signal of the route a, and a has the section x not in its path: if it uses it, in its overlap only.
pub record Excused (d : Drawing) (a b x : ℕ) : Type 0 where
  pub prolongs : EndsAtSignal d a (first_element d b)
  pub overlap_only : UsesSectionInPath (elements_of d) (route_of d a) x → ⊥

-- The element e is a point or a derailer.
pub data Moved (es : List Element) (e : ℕ) : Type 0 where
  point : (at es e).kind ≡ kind.Point → Moved es e
  derailer : (at es e).kind ≡ kind.Derailer → Moved es e

-- A route passes a point by the leg of a position, in its path or in its overlap, and a derailer that it uses when it is off.
pub data Passes (es : List Element) (r : Route) (e : ℕ) : Position → Type 0 where
  in_path : {p : Position} → PassesIn es (path_of r) e p → Passes es r e p
  in_overlap : {p : Position} → PassesIn es (way_beyond r) e p → Passes es r e p
  over_derailer : Uses es r e → (at es e).kind ≡ kind.Derailer → Passes es r e position.Minus

-- The element e shields in the position p, as the field tells: a point or derailer is reported in p, a signal has its stop lamp burning.
pub data Shielding (es : List Element) (m : Meaning) (e : ℕ) (p : Position) : Type 0 where
  reported : Moved es e → report_of m e ≡ Some p → Shielding es m e p
  burning : (at es e).kind ≡ kind.Signal → burning_of m e ≡ true → Shielding es m e p

-- The signal l is permissive: asked for it, the station answers an aspect that is not stop.
abbrev pub SignalPermissive : Drawing → Situation → ℕ → Type 0
SignalPermissive d s l = (v : Aspect) × (aspect_answer (sheets_of d) s.inner l ≡ Ok v) × (permits v ≡ true)

-- The signal of the route a, the first element of its path, is permissive.
abbrev pub Permissive : Drawing → Situation → ℕ → Type 0
Permissive d s a = SignalPermissive d s (first_element d a)

-- The act orders the element e to the position p.
abbrev pub Orders : Drawing → Situation → Act → ℕ → Position → Type 0
Orders d s act e p = In (record { element = e; position = p }) (orders_sent (sheets_of d) s act)
