-- Which refusal an act gets.
use Rattle.std.specs.Prelude.{◌≡◌, ℕ, true, ◌≢◌, ◌⊎◌, Some}
use Rattle.layout.specs.declared.drawing.Drawing.{Drawing}
use Rattle.layout.specs.declared.position.Position.{Position}
use Rattle.refusals.specs.declared.refusal.Refusal.{Refusal}
use Rattle.refusals.specs.declared.refusal.Refusal.TheVariants as refusal
use Rattle.layout.specs.Uses.{UsesSectionInPath}
use Rattle.sheets.specs.Sheets.{sheets_of}
use Rattle.plan.specs.Flanks.{route_of}
use Rattle.sheetlaws.specs.Routes.{Exactly, elements_of, HasRoute}
use Rattle.sheetlaws.specs.Needed.{Needs}
use Rattle.field.specs.Meaning.{occupied_of}
use Rattle.holds.specs.Interlockings.{hold_of, held_by}
use Rattle.acts.specs.declared.act.Act.{Act}
use Rattle.acts.specs.declared.act.Act.TheVariants as act
use Rattle.acts.specs.declared.act.Event.{Event}
use Rattle.acts.specs.Situations.{Situation}
use Rattle.acts.specs.Answers.{answer}
use Rattle.safety.specs.Words.{Standing, RouteUses, Excused}
use Rattle.safety.specs.Accepting.{OfThePlan}

-- An act is answered with the refusal x.
abbrev pub Gets : Drawing → Situation → Act → Refusal → Type 0
Gets d s a x = answer (sheets_of d) s a ≡ Some x

-- Every section that the route r shares with a standing route is excused.
abbrev pub SharedExcused : Drawing → Situation → ℕ → Type 0
SharedExcused d s r =
    (other section : ℕ) → HasRoute d other → Standing s other → RouteUses d r section → RouteUses d other section
    → Excused d r other section ⊎ Excused d other r section

-- A standing route uses a section that the route r uses too, and the section is excused neither where r goes on in the other route
-- nor where the other route goes on in r.
pub record SectionInUse (d : Drawing) (s : Situation) (r : ℕ) : Type 0 where
  pub other : ℕ
  pub section : ℕ
  pub known : HasRoute d other
  pub stands : Standing s other
  pub wanted : RouteUses d r section
  pub used : RouteUses d other section
  pub not_onward : Excused d r other section → ⊥
  pub not_into : Excused d other r section → ⊥

-- Some route holds an element that the route r needs, and not in the position in which r needs it.
pub record HeldOtherwise (d : Drawing) (s : Situation) (r : ℕ) : Type 0 where
  pub element : ℕ
  pub position : Position
  pub holder : ℕ
  pub needed : Needs (elements_of d) (route_of d r) element position
  pub held : held_by s.inner holder element ≡ true
  pub otherwise : (hold_of s.inner element).position ≢ position

-- A set is refused with the first of four that applies: the plan has no such route; the route stands already; a section of it is in use;
-- an element that it needs is held otherwise. It is answered with no other refusal.
pub record SetRefused (d : Drawing) (s : Situation) (r : ℕ) : Type 0 where
  pub no_such_route : Exactly (Gets d s (act.Set r) refusal.NoSuchRoute) (HasRoute d r → ⊥)
  pub stands_already : Exactly (Gets d s (act.Set r) refusal.StandsAlready) (HasRoute d r × Standing s r)
  pub section_in_use : Exactly (Gets d s (act.Set r) refusal.SectionInUse) (HasRoute d r × (Standing s r → ⊥) × SectionInUse d s r)
  pub held_otherwise :
      Exactly (Gets d s (act.Set r) refusal.HeldOtherwise) (HasRoute d r × (Standing s r → ⊥) × SharedExcused d s r × HeldOtherwise d s r)
  pub no_other :
      (x : Refusal) → Gets d s (act.Set r) x
      → (x ≡ refusal.NoSuchRoute) ⊎ (x ≡ refusal.StandsAlready) ⊎ (x ≡ refusal.SectionInUse) ⊎ (x ≡ refusal.HeldOtherwise)

-- Every set of every situation is refused so.
abbrev pub SetRefusedExactly : Drawing → Type 0
SetRefusedExactly d = (s : Situation) (r : ℕ) → SetRefused d s r

-- A clear is refused with the first of two that applies: the plan has no such route; the route does not stand. It is answered with no other refusal.
pub record ClearRefused (d : Drawing) (s : Situation) (r : ℕ) : Type 0 where
  pub no_such_route : Exactly (Gets d s (act.Clear r) refusal.NoSuchRoute) (HasRoute d r → ⊥)
  pub not_standing : Exactly (Gets d s (act.Clear r) refusal.NotStanding) (HasRoute d r × (Standing s r → ⊥))
  pub no_other : (x : Refusal) → Gets d s (act.Clear r) x → (x ≡ refusal.NoSuchRoute) ⊎ (x ≡ refusal.NotStanding)

-- Every clear of every situation is refused so.
abbrev pub ClearRefusedExactly : Drawing → Type 0
ClearRefusedExactly d = (s : Situation) (r : ℕ) → ClearRefused d s r

-- Some section that the path of the route r uses is occupied.
pub record PathOccupied (d : Drawing) (s : Situation) (r : ℕ) : Type 0 where
  pub section : ℕ
  pub used : UsesSectionInPath (elements_of d) (route_of d r) section
  pub occupied : occupied_of s.meant section ≡ true

-- A release is refused with the first of three that applies: the plan has no such route; the route does not stand; its path is occupied.
-- It is answered with no other refusal.
pub record ReleaseRefused (d : Drawing) (s : Situation) (r : ℕ) : Type 0 where
  pub no_such_route : Exactly (Gets d s (act.Release r) refusal.NoSuchRoute) (HasRoute d r → ⊥)
  pub not_standing : Exactly (Gets d s (act.Release r) refusal.NotStanding) (HasRoute d r × (Standing s r → ⊥))
  pub path_occupied : Exactly (Gets d s (act.Release r) refusal.PathOccupied) (HasRoute d r × Standing s r × PathOccupied d s r)
  pub no_other :
      (x : Refusal) → Gets d s (act.Release r) x
      → (x ≡ refusal.NoSuchRoute) ⊎ (x ≡ refusal.NotStanding) ⊎ (x ≡ refusal.PathOccupied)

-- Every release of every situation is refused so.
abbrev pub ReleaseRefusedExactly : Drawing → Type 0
ReleaseRefusedExactly d = (s : Situation) (r : ℕ) → ReleaseRefused d s r

-- An event is refused exactly if it is not of the plan, and for no other reason.
abbrev pub EventRefusedExactly : Drawing → Type 0
EventRefusedExactly d =
    (s : Situation) (v : Event) (x : Refusal) → Exactly (Gets d s (act.Tell v) x) ((x ≡ refusal.NotOfThePlan) × (OfThePlan d v → ⊥))
