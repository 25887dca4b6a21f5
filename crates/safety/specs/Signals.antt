-- What signals show.
use Rattle.std.specs.Prelude.{◌≡◌, ℕ, true, false, ◌≢◌, List, Ok}
use Rattle.layout.specs.declared.drawing.Drawing.{Drawing}
use Rattle.layout.specs.declared.kind.Kind.TheVariants as kind
use Rattle.layout.specs.declared.route.Route.{Route}
use Rattle.layout.specs.declared.route.RouteClass.TheVariants as class
use Rattle.layout.specs.Ports.{at}
use Rattle.sheets.specs.Sheets.{sheets_of}
use Rattle.plan.specs.Flanks.{route_of}
use Rattle.sheetlaws.specs.Routes.{Exactly, elements_of, HasRoute}
use Rattle.sheetlaws.specs.Ends.{first_element}
use Rattle.field.specs.Meaning.{Meaning}
use Rattle.holds.specs.declared.aspect.Aspect.{Aspect}
use Rattle.holds.specs.declared.aspect.Aspect.TheVariants as aspect
use Rattle.holds.specs.declared.state.RouteState.TheVariants as state
use Rattle.holds.specs.Interlockings.{state_of}
use Rattle.acts.specs.declared.act.Act.{Act}
use Rattle.acts.specs.Situations.{Situation}
use Rattle.acts.specs.Questions.{aspect_answer}
use Rattle.safety.specs.Words.{run}

-- What a clear route shows at the signal where it begins: a shunting route shunting, a train route with zero overlap slow, any other train route proceed.
pub data ClearsTo (r : Route) : Aspect → Type 0 where
  shunting : r.class ≡ class.Shunting → ClearsTo r aspect.Shunting
  slow : r.class ≡ class.Train → r.zero_overlap ≡ true → ClearsTo r aspect.Slow
  proceed : r.class ≡ class.Train → r.zero_overlap ≡ false → ClearsTo r aspect.Proceed

-- The signal l shows what a clear route that begins at it shows, and stop where no clear route begins.
pub data Shows (d : Drawing) (s : Situation) (l : ℕ) : Aspect → Type 0 where
  of_clear_route :
      {v : Aspect} (r : ℕ) → HasRoute d r → state_of s.inner r ≡ state.Clear → first_element d r ≡ l → ClearsTo (route_of d r) v → Shows d s l v
  at_stop : ((r : ℕ) → HasRoute d r → state_of s.inner r ≡ state.Clear → first_element d r ≢ l) → Shows d s l aspect.Stop

-- After the acts of every run, the station answers an aspect for an element exactly if the element is a signal and shows that aspect.
-- It answers one aspect at most, so a signal shows one at most.
abbrev pub AspectsExactly : Drawing → Type 0
AspectsExactly d =
    (m : Meaning) (acts : List Act) (l : ℕ) (v : Aspect)
    → Exactly
    (aspect_answer (sheets_of d) (run d m acts).inner l ≡ Ok v)
    (((at (elements_of d) l).kind ≡ kind.Signal) × Shows d (run d m acts) l v)
