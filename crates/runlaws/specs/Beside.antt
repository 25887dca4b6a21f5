-- What stands beside the law: what a set may be refused for, that a refusal changes nothing, and that one signal starts one standing route.
use Rattle.std.specs.Prelude.{◌≡◌, ℕ, true, false, ◌≢◌, ◌⊎◌, List, [], take, Some, None}
use Rattle.layout.specs.declared.position.Position.{Position}
use Rattle.field.specs.Meaning.{Meaning}
use Rattle.refusals.specs.declared.refusal.Refusal.{Refusal}
use Rattle.sheets.specs.declared.sheet.RouteSheet.{RouteSheet}
use Rattle.sheets.specs.declared.sheet.Sheets.{Sheets}
use Rattle.sheets.specs.Reading.{route_count, route_sheet, has_route, need_of}
use Rattle.holds.specs.declared.interlocking.Interlocking.{Interlocking}
use Rattle.holds.specs.States.{stands}
use Rattle.holds.specs.Interlockings.{hold_of, held_by, state_of}
use Rattle.acts.specs.declared.act.Act.{Act}
use Rattle.acts.specs.declared.act.Act.TheVariants.{Set}
use Rattle.acts.specs.Situations.{Situation, situation}
use Rattle.acts.specs.Answers.{answer}
use Rattle.acts.specs.Acts.{performed, orders_sent}
use Rattle.runlaws.specs.Lawful.{Uses, Excused, Lawful}
use Rattle.runlaws.specs.SheetLaw.{run, Standing}

-- Two sheets that differ at most in what they request, in what they show and in their end lamps.
pub record Agree (a b : RouteSheet) : Type 0 where
  pub first : a.first ≡ b.first
  pub last : a.last_signal ≡ b.last_signal
  pub needs : (e : ℕ) → need_of a e ≡ need_of b e
  pub sections : a.sections ≡ b.sections
  pub used : a.used ≡ b.used

-- Two plans whose routes differ so at most.
pub record Alike (t u : Sheets) : Type 0 where
  pub count : route_count t ≡ route_count u
  pub routes : (r : ℕ) → has_route t r ≡ true → Agree (route_sheet t r) (route_sheet u r)

-- The answer to a set is the same on every field, and whatever the routes request, show and prove at their ends.
abbrev pub NoWantRefuses : Type 0
NoWantRefuses =
    (t u : Sheets) → Lawful t → Lawful u → Alike t u → (i : Interlocking) (m n : Meaning) (r : ℕ)
    → answer t (situation i m) (Set r) ≡ answer u (situation i n) (Set r)

-- Nothing speaks against setting a route: it is of the plan and does not stand; a section that a standing route uses as well is excused;
-- and what it needs is held by nobody or as it needs it.
pub record SetFree (t : Sheets) (i : Interlocking) (r : ℕ) : Type 0 where
  pub route : has_route t r ≡ true
  pub new : stands (state_of i r) ≡ false
  pub sections :
      (q x : ℕ) → has_route t q ≡ true → stands (state_of i q) ≡ true → Uses t r x → Uses t q x → Excused t r q x ⊎ Excused t q r x
  pub holds :
      (e : ℕ) (p : Position) → need_of (route_sheet t r) e ≡ Some p → ((q : ℕ) → held_by i q e ≡ false) ⊎ ((hold_of i e).position ≡ p)

-- A set is accepted exactly if nothing speaks against it.
abbrev pub SetExactly : Type 0
SetExactly =
    (t : Sheets) → Lawful t → (i : Interlocking) (m : Meaning) (r : ℕ)
    → (answer t (situation i m) (Set r) ≡ None → SetFree t i r) × (SetFree t i r → answer t (situation i m) (Set r) ≡ None)

-- A route that crosses no standing one is admitted over elements that are held by nobody or as it needs them.
abbrev pub AdmitsOverLocked : Type 0
AdmitsOverLocked =
    (t : Sheets) → Lawful t → (i : Interlocking) (m : Meaning) (r : ℕ) → has_route t r ≡ true → stands (state_of i r) ≡ false
    → ((q x : ℕ) → has_route t q ≡ true → stands (state_of i q) ≡ true → Uses t r x → Uses t q x → Excused t r q x ⊎ Excused t q r x)
    → ((e : ℕ) (p : Position) → need_of (route_sheet t r) e ≡ Some p → ((q : ℕ) → held_by i q e ≡ false) ⊎ ((hold_of i e).position ≡ p))
    → answer t (situation i m) (Set r) ≡ None

-- A refused act changes nothing and orders nothing.
abbrev pub RefusedChangesNothing : Type 0
RefusedChangesNothing =
    (t : Sheets) (s : Situation) (act : Act) (x : Refusal) → answer t s act ≡ Some x → (performed t s act ≡ s) × (orders_sent t s act ≡ [])

-- In every situation of a run, two different standing routes begin at different signals.
abbrev pub OneStandingStart : Type 0
OneStandingStart =
    (t : Sheets) → Lawful t → (m : Meaning) (acts : List Act) (n : ℕ) (a b : ℕ) → a ≢ b
    → Standing (run t m (take n acts)) a → Standing (run t m (take n acts)) b → (route_sheet t a).first ≢ (route_sheet t b).first
