-- The theorems that the sheets tell the ends of a route and what its start signal shows.
use Rattle.std.specs.Prelude.{◌≡◌, ℕ, true, false, Some}
use Rattle.layout.specs.declared.drawing.Drawing.{Drawing}
use Rattle.layout.specs.declared.element.Element.{Element}
use Rattle.layout.specs.declared.kind.Kind.TheVariants as kind
use Rattle.layout.specs.declared.kind.Marks.{Marks}
use Rattle.layout.specs.declared.route.RouteClass.TheVariants as class
use Rattle.layout.specs.Ports.{at}
use Rattle.layout.specs.Ways.{place}
use Rattle.layout.specs.Uses.{path_of}
use Rattle.paths.specs.Sound.{last}
use Rattle.sheets.specs.declared.sheet.Showing.TheVariants as showing
use Rattle.plan.specs.Flanks.{route_of}
use Rattle.plan.specs.Sound.{SoundPlan}
use Rattle.sheetlaws.specs.Routes.{Exactly, elements_of, HasRoute, sheet_at}

-- The first and the last element of the path of the route i.
abbrev pub first_element : Drawing → ℕ → ℕ
first_element d i = place (path_of (route_of d i)) 0

abbrev pub last_element : Drawing → ℕ → ℕ
last_element d i = place (path_of (route_of d i)) (last (path_of (route_of d i)))

-- The path of the route i ends at the signal l.
pub record EndsAtSignal (d : Drawing) (i l : ℕ) : Type 0 where
  pub ends : last_element d i ≡ l
  pub signal : (at (elements_of d) l).kind ≡ kind.Signal

-- The marks of an element, if it has any, do not spare its lamp.
abbrev pub KeepsLamp : Element → Type 0
KeepsLamp e = (m : Marks) → e.marks ≡ Some m → m.lamp_spared ≡ false

-- The lamp of the signal l is to be proved at the end of the route i: the path ends at that signal,
-- the route has no zero overlap, and the signal's marks do not spare the lamp.
pub record ProvesLamp (d : Drawing) (i l : ℕ) : Type 0 where
  pub at_end : EndsAtSignal d i l
  pub no_zero : (route_of d i).zero_overlap ≡ false
  pub kept : KeepsLamp (at (elements_of d) l)

-- The sheet of a route has the first element of its path; the signal at which its path ends, exactly if it ends at one;
-- and the signal whose lamp is to be proved at its end, exactly if there is one.
abbrev pub EndsExact : Type 0
EndsExact =
    (d : Drawing) → SoundPlan d → (i : ℕ) → HasRoute d i
    → ((sheet_at d i).first ≡ first_element d i)
    × ((l : ℕ) → Exactly ((sheet_at d i).last_signal ≡ Some l) (EndsAtSignal d i l))
    × ((l : ℕ) → Exactly ((sheet_at d i).end_lamp ≡ Some l) (ProvesLamp d i l))

-- A shunting route shows shunting; a train route shows slow with a zero overlap, and proceed without.
abbrev pub ShowingExact : Type 0
ShowingExact =
    (d : Drawing) → SoundPlan d → (i : ℕ) → HasRoute d i
    → ((route_of d i).class ≡ class.Shunting → (sheet_at d i).showing ≡ showing.Shunting)
    × ((route_of d i).class ≡ class.Train → (route_of d i).zero_overlap ≡ true → (sheet_at d i).showing ≡ showing.Slow)
    × ((route_of d i).class ≡ class.Train → (route_of d i).zero_overlap ≡ false → (sheet_at d i).showing ≡ showing.Proceed)
