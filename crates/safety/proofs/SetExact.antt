-- A set is accepted exactly if the route is free to be set, on any field alike, and a refused act changes nothing.
use Rattle.std.proofs.Common.{◌≡◌, ℕ, suc, ◌<◌, true, false, ◌⊎◌, List, [], length, Some, sym, refl, ap, ◌∙◌, subst, inl, inr, ⊎_elim, arith}
use Rattle.std.proofs.lemmas.Bool.{cases_Bool, or_cases, both_ways}
use Rattle.layout.specs.declared.drawing.Drawing.{Drawing}
use Rattle.layout.specs.declared.element.Element.{Element}
use Rattle.layout.specs.declared.position.Position.{Position}
use Rattle.layout.specs.declared.route.Route.{Route}
use Rattle.layout.specs.Uses.{path_of, overlap_of, way_beyond, Between, Uses, UsesSectionInPath}
use Rattle.paths.specs.Sound.{SoundOverlap}
use Rattle.walks.proofs.Flanks.{SoundRoute, sound_route, beyond_within}
use Rattle.walks.proofs.Exactly.{overlap_within}
use Rattle.sheets.specs.declared.sheet.RouteSheet.{RouteSheet}
use Rattle.sheets.specs.Reading.{route_sheet, need_of, use_of, on_path, uses}
use Rattle.sheets.specs.Sheets.{sheets_of}
use Rattle.plan.specs.Flanks.{route_of}
use Rattle.plan.specs.Sound.{SoundPlan}
use Rattle.sheetlaws.specs.Routes.{elements_of, HasRoute, sheet_at}
use Rattle.sheetlaws.specs.Ends.{first_element}
use Rattle.sheetlaws.specs.Needed.{Needs, starts, passes_in_path, passes_in_overlap, derails}
use Rattle.sheetlaws.proofs.EndsExact.{ends_exact}
use Rattle.sheetlaws.proofs.NeedsExact.{needs_exact}
use Rattle.sheetlaws.proofs.SectionsExact.{sections_exact, used_known}
use Rattle.holds.specs.States.{stands}
use Rattle.holds.specs.Interlockings.{state_of}
use Rattle.acts.specs.Situations.{Situation}
use Rattle.runlaws.specs.Lawful as over
use Rattle.runlaws.specs.Beside.{SetFree}
use Rattle.runlaws.proofs.Admitted as admitted
use Rattle.safety.specs.Words.{RouteUses, Excused}
use Rattle.safety.specs.Setting.{FreeToSet, SetExactly, SameOnEveryField, RefusedChangesNothing}
use Rattle.safety.proofs.PlanLawful.{same_sheet, route_known, route_has, use_told, first_told, plan_lawful}
use Rattle.safety.proofs.PlanLaw.{excused}

module _ (es : List Element) (r : Route) (route : SoundRoute es r) where
  -- an element between the ends of the overlap's way is of the plan
  beyond_known : (e k : ℕ) → Between (way_beyond r) e k → e < length es
  beyond_known e k b = go route.overlap
    where
      go : (overlap_of r ≡ []) ⊎ SoundOverlap es (path_of r) (overlap_of r) → e < length es
      go (inl none) = absurd (omega (arith, b.within, ap length none))
      go (inr o) =
          subst (λ (n : ℕ). n < length es) b.is
          (beyond_within es (path_of r) (overlap_of r) route.path.within o (suc k) (omega (arith, b.within)))

  -- an element that a route needs is of the plan, since what it uses is
  needed_known : (e : ℕ) {p : Position} → Needs es r e p → (Uses es r e → e < length es) → e < length es
  needed_known e (starts i) used =
      subst (λ (n : ℕ). n < length es) i (route.path.within 0 (omega (arith, route.path.body.1, route.path.body.2)))
  needed_known e (passes_in_path f) used =
      subst (λ (n : ℕ). n < length es) f.between.is (route.path.within (suc f.at_place) (omega (arith, f.between.within)))
  needed_known e (passes_in_overlap f) used = beyond_known e f.at_place f.between
  needed_known e (derails u k) used = used u

module _ (d : Drawing) (sound : SoundPlan d) where
  needed_low : (a e : ℕ) (p : Position) → HasRoute d a → Needs (elements_of d) (route_of d a) e p → e < 96
  needed_low a e p h n =
      let es : List Element = elements_of d in
      let r : Route = route_of d a in
      let route : SoundRoute es r = sound_route es r (sound.paths a h) (sound.overlaps a h) in
      let low : e < length es =
      needed_known es r route e n
      (used_known es r route.path.within (overlap_within es r sound.elements sound.few_elements route) e) in
      let few = sound.few_elements in
      omega arith

  -- what a route needs, its sheet needs
  pub need_told : (a e : ℕ) (p : Position) → HasRoute d a → Needs (elements_of d) (route_of d a) e p
      → need_of (route_sheet (sheets_of d) a) e ≡ Some p
  need_told a e p h n =
      subst (λ (s : RouteSheet). need_of s e ≡ Some p) (sym (same_sheet d sound a h)) ((needs_exact d sound a h e (needed_low a e p h n) p).1 n)

  -- an element that the sheet of a route needs is one of 96
  pub need_low : (a e : ℕ) (p : Position) → HasRoute d a → need_of (route_sheet (sheets_of d) a) e ≡ Some p → e < 96
  need_low a e p h n = ((plan_lawful d sound).needed a e p (route_has d sound a h) n).0

  -- what the sheet of a route needs, the route needs
  pub need_meant : (a e : ℕ) (p : Position) → HasRoute d a → need_of (route_sheet (sheets_of d) a) e ≡ Some p
      → Needs (elements_of d) (route_of d a) e p
  need_meant a e p h n =
      (needs_exact d sound a h e (need_low a e p h n) p).0
      (subst (λ (s : RouteSheet). need_of s e ≡ Some p) (same_sheet d sound a h) n)

  -- a section that the sheet of a route uses is one of 64
  pub use_low : (a x : ℕ) → HasRoute d a → over.Uses (sheets_of d) a x → x < 64
  use_low a x h u = ((plan_lawful d sound).used a x (route_has d sound a h) u).0

  -- a section on the path of the sheet of a route is one that its path uses
  pub path_meant : (a x : ℕ) → HasRoute d a → x < 64 → on_path (route_sheet (sheets_of d) a) x ≡ true
      → UsesSectionInPath (elements_of d) (route_of d a) x
  path_meant a x h low t =
      (sections_exact d sound a h x low).0.0 (subst (λ (s : RouteSheet). on_path s x ≡ true) (same_sheet d sound a h) t)

  -- what the sheet of a route uses, the route uses
  pub use_meant : (a x : ℕ) → HasRoute d a → over.Uses (sheets_of d) a x → RouteUses d a x
  use_meant a x h u =
      let low : x < 64 = use_low a x h u in
      let here : uses (sheet_at d a) x ≡ true = subst (λ (s : RouteSheet). uses s x ≡ true) (same_sheet d sound a h) u in
      ⊎_elim
      (λ (p : (use_of (sheet_at d a) x).path ≡ true). inl ((sections_exact d sound a h x low).0.0 p))
      (λ (o : (use_of (sheet_at d a) x).overlap ≡ true). inr ((sections_exact d sound a h x low).1.0 o))
      (or_cases (use_of (sheet_at d a) x).path (use_of (sheet_at d a) x).overlap here)

  -- an excuse of the plan is one of its sheets
  pub excuse_told : (a b x : ℕ) → HasRoute d a → HasRoute d b → x < 64 → Excused d a b x → over.Excused (sheets_of d) a b x
  excuse_told a b x ha hb low e = (
    ap (λ (s : RouteSheet). s.last_signal) (same_sheet d sound a ha)
        ∙ (((ends_exact d sound a ha).1 (first_element d b)).1 e.prolongs ∙ ap Some (sym (first_told d sound b hb))),
    ⊎_elim
        (λ (t : on_path (route_sheet (sheets_of d) a) x ≡ true). absurd (e.overlap_only (path_meant a x ha low t)))
        (λ (f : on_path (route_sheet (sheets_of d) a) x ≡ false). f)
        (cases_Bool (on_path (route_sheet (sheets_of d) a) x)),
  )

  module _ (s : Situation) (r : ℕ) where
    free_meant : SetFree (sheets_of d) s.inner r → FreeToSet d s r
    free_meant free =
        let h : HasRoute d r = route_known d sound r free.route in
        record {
          route = h;
          new = λ st. both_ways (stands (state_of s.inner r)) free.new st;
          sections = λ q x hq st ur uq.
              ⊎_elim
              (λ (e : over.Excused (sheets_of d) r q x). inl (excused d sound r q x h hq e))
              (λ (e : over.Excused (sheets_of d) q r x). inr (excused d sound q r x hq h e))
              (free.sections q x (route_has d sound q hq) st (use_told d sound r x h ur) (use_told d sound q x hq uq));
          holds = λ e p n. free.holds e p (need_told r e p h n);
        }

    free_told : FreeToSet d s r → SetFree (sheets_of d) s.inner r
    free_told free =
        let h : HasRoute d r = free.route in
        let up = stands (state_of s.inner r) in
        record {
          route = route_has d sound r h;
          new = ⊎_elim (λ (st : up ≡ true). absurd (free.new st)) (λ (f : up ≡ false). f) (cases_Bool up);
          sections = λ q x tq st ur uq.
              let hq : HasRoute d q = route_known d sound q tq in
              let low : x < 64 = use_low r x h ur in
              ⊎_elim
              (λ (e : Excused d r q x). inl (excuse_told r q x h hq low e))
              (λ (e : Excused d q r x). inr (excuse_told q r x hq h low e))
              (free.sections q x hq st (use_meant r x h ur) (use_meant q x hq uq));
          holds = λ e p n. free.holds e p (need_meant r e p h n);
        }

  pub set_exactly : SetExactly d
  set_exactly s r =
      let both = admitted.set_exactly (sheets_of d) (plan_lawful d sound) s.inner s.meant r in
      ((λ t. free_meant s r (both.0 t)), (λ free. both.1 (free_told s r free)))

  pub same_on_every_field : SameOnEveryField d
  same_on_every_field i m n r = refl

  pub refused_changes_nothing : RefusedChangesNothing d
  refused_changes_nothing = admitted.refused_changes_nothing (sheets_of d)
