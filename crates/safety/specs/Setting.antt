-- When a set is accepted, that no field decides it, and that a refused act changes nothing.
use Rattle.std.specs.Prelude.{◌≡◌, ℕ, false, ◌⊎◌, [], Some, None}
use Rattle.layout.specs.declared.drawing.Drawing.{Drawing}
use Rattle.layout.specs.declared.position.Position.{Position}
use Rattle.refusals.specs.declared.refusal.Refusal.{Refusal}
use Rattle.sheets.specs.Sheets.{sheets_of}
use Rattle.plan.specs.Flanks.{route_of}
use Rattle.sheetlaws.specs.Routes.{elements_of, HasRoute}
use Rattle.sheetlaws.specs.Needed.{Needs}
use Rattle.field.specs.Meaning.{Meaning}
use Rattle.holds.specs.declared.interlocking.Interlocking.{Interlocking}
use Rattle.holds.specs.Interlockings.{hold_of, held_by}
use Rattle.acts.specs.declared.act.Act.{Act}
use Rattle.acts.specs.declared.act.Act.TheVariants as act
use Rattle.acts.specs.Situations.{Situation, situation}
use Rattle.acts.specs.Answers.{answer}
use Rattle.acts.specs.Acts.{performed, orders_sent}
use Rattle.safety.specs.Words.{Standing, RouteUses, Excused}

-- Nothing speaks against setting the route r: it is of the plan and does not stand; a section that it shares with a standing route is excused;
-- and every element that it needs is held by nobody, or held in the position in which it needs it.
-- Neither the field nor a request for the protection of a flank is asked: so no want of protection refuses a set,
-- and a route is admitted over a point that is locked as the route needs it.
pub record FreeToSet (d : Drawing) (s : Situation) (r : ℕ) : Type 0 where
  pub route : HasRoute d r
  pub new : Standing s r → ⊥
  pub sections :
      (q x : ℕ) → HasRoute d q → Standing s q → RouteUses d r x → RouteUses d q x → Excused d r q x ⊎ Excused d q r x
  pub holds :
      (e : ℕ) (p : Position) → Needs (elements_of d) (route_of d r) e p
      → ((q : ℕ) → held_by s.inner q e ≡ false) ⊎ ((hold_of s.inner e).position ≡ p)

-- A set is accepted exactly if nothing speaks against it, in every situation.
abbrev pub SetExactly : Drawing → Type 0
SetExactly d =
    (s : Situation) (r : ℕ)
    → (answer (sheets_of d) s (act.Set r) ≡ None → FreeToSet d s r) × (FreeToSet d s r → answer (sheets_of d) s (act.Set r) ≡ None)

-- A set gets one answer on every field.
abbrev pub SameOnEveryField : Drawing → Type 0
SameOnEveryField d =
    (i : Interlocking) (m n : Meaning) (r : ℕ)
    → answer (sheets_of d) (situation i m) (act.Set r) ≡ answer (sheets_of d) (situation i n) (act.Set r)

-- A refused act leaves the situation as it was, and sends no order.
abbrev pub RefusedChangesNothing : Drawing → Type 0
RefusedChangesNothing d =
    (s : Situation) (a : Act) (x : Refusal) → answer (sheets_of d) s a ≡ Some x
    → (performed (sheets_of d) s a ≡ s) × (orders_sent (sheets_of d) s a ≡ [])
