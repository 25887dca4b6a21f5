-- A set and a clear of a route of a checked plan grant exactly what the route may have of its requests.
use Rattle.std.proofs.Common.{◌≡◌, ℕ, true, false, Some, None, Option, sym, refl, ap, ◌∙◌, subst, inl, inr, ⊎_elim}
use Rattle.layout.specs.declared.drawing.Drawing.{Drawing}
use Rattle.layout.specs.declared.position.Position.{Position}
use Rattle.walks.specs.Walks.{Requested}
use Rattle.refusals.specs.declared.refusal.Refusal.{Refusal}
use Rattle.refusals.specs.declared.refusal.Refusal.TheVariants as refusal
use Rattle.sheets.specs.declared.sheet.Sheets.{Sheets}
use Rattle.sheets.specs.Reading.{route_sheet, has_route, need_of, request_of}
use Rattle.sheets.specs.Sheets.{sheets_of}
use Rattle.plan.specs.Flanks.{route_of}
use Rattle.plan.specs.Sound.{SoundPlan}
use Rattle.sheetlaws.specs.Routes.{elements_of, HasRoute}
use Rattle.holds.specs.declared.hold.Hold.{Hold}
use Rattle.holds.specs.RouteSets.{contains}
use Rattle.holds.specs.Interlockings.{hold_of, held_by}
use Rattle.holds.specs.Refusing.{clear_refusal}
use Rattle.acts.specs.declared.act.Act.{Act}
use Rattle.acts.specs.Situations.{Situation}
use Rattle.acts.specs.Answers.{answer}
use Rattle.acts.specs.Acts.{stepped, after, unless, performed}
use Rattle.runlaws.specs.Lawful.{Lawful}
use Rattle.runlaws.proofs.Coherent.{Sound, Coherent, passes_test, set_accepted, performed_coherent}
use Rattle.runlaws.proofs.Shown.{end_coherent}
use Rattle.runlaws.proofs.Stepped.{hold_is}
use Rattle.runlaws.proofs.Granting.{Room, nobody_or_somebody, set_keeps, clear_keeps, set_grants, clear_grants, held_before}
use Rattle.safety.specs.Words.{run, Standing, Holds, SetsOrClears, sets, clears}
use Rattle.safety.specs.Granting.{MayHave, GrantsExactly, GrantedBySetOrClear}
use Rattle.safety.proofs.PlanLawful.{route_known, plan_lawful}
use Rattle.safety.proofs.PlanLaw.{requested_low, request_told}
use Rattle.safety.proofs.SetExact.{need_told, need_meant}
use Rattle.safety.proofs.HoldsExact.{held_stands}

-- a set or a clear that is accepted
module _ (t : Sheets) (s : Situation) (r : ℕ) where
  route_there : (a : Act) → SetsOrClears r a → answer t s a ≡ None → has_route t r ≡ true
  route_there a sets h = (set_accepted t s r h).route
  route_there a clears h = (passes_test (has_route t r) (clear_refusal r s.inner) refusal.NoSuchRoute h).0

  keeps :
      (a : Act) → SetsOrClears r a → answer t s a ≡ None → (k e : ℕ) → held_by s.inner k e ≡ true
      → (hold_of (stepped t s.inner a) e).position ≡ (hold_of s.inner e).position
  keeps a sets h k e held = set_keeps t s r k e held h
  keeps a clears h k e held = clear_keeps t s r k e held

  grants :
      Lawful t → Sound t s.inner → (a : Act) → SetsOrClears r a → answer t s a ≡ None → (e : ℕ) (p : Position)
      → request_of (route_sheet t r) e ≡ Some p → Room s.inner e p → ((q : Position) → need_of (route_sheet t r) e ≡ Some q → q ≡ p)
      → (held_by (stepped t s.inner a) r e ≡ true) × ((hold_of (stepped t s.inner a) e).position ≡ p)
  grants law sound a sets h e p asked room alike = set_grants t law s sound r e p (set_accepted t s r h).route asked room h alike
  grants law sound a clears h e p asked room alike = clear_grants t law s sound r e p (route_there a clears h) asked room

module _ (d : Drawing) (sound : SoundPlan d) (s : Situation) (c : Coherent (sheets_of d) s) (a : Act) (r e : ℕ) (p : Position)
    (taken : SetsOrClears r a) (accepted : answer (sheets_of d) s a ≡ None) where
  known : HasRoute d r
  known = route_known d sound r (route_there (sheets_of d) s r a taken accepted)

  may_have : Holds (performed (sheets_of d) s a) r e p → MayHave d s r e p
  may_have held =
      let t = sheets_of d in
      let law = plan_lawful d sound in
      let next = performed_coherent t law s a c in
      let st : Standing (performed t s a) r = held_stands d (performed t s a) next r e held.0 in
      let at : (hold_of (stepped t s.inner a) e).position ≡ p = sym (ap (λ (x : Hold). x.position) (hold_is t s a accepted e)) ∙ held.1 in
      record {
        room = ⊎_elim
            (λ (none : (k : ℕ) → held_by s.inner k e ≡ false). inl none)
            (λ (some : (k : ℕ) × (held_by s.inner k e ≡ true)). inr (sym (keeps t s r a taken accepted some.0 e some.1) ∙ at))
            (nobody_or_somebody s.inner e);
        alike = λ q n. sym (next.sound.held r e q st (need_told d sound r e q known n)).1 ∙ held.1;
      }

  granted : Requested (elements_of d) (route_of d r) e p → MayHave d s r e p → Holds (performed (sheets_of d) s a) r e p
  granted q may =
      let t = sheets_of d in
      let asked = request_told d sound r e p known (requested_low d sound r e p known q) q in
      let own =
      grants t s r (plan_lawful d sound) c.sound a taken accepted e p asked may.room (λ x n. may.alike x (need_meant d sound r e x known n)) in
      let hold = hold_is t s a accepted e in
      (ap (λ (x : Hold). contains x.routes r) hold ∙ own.0, ap (λ (x : Hold). x.position) hold ∙ own.1)

pub grants_exactly : (d : Drawing) → SoundPlan d → GrantsExactly d
grants_exactly d sound m acts a r e p taken accepted q =
    let s = run d m acts in
    let c = end_coherent (sheets_of d) (plan_lawful d sound) m acts in
    (may_have d sound s c a r e p taken accepted, granted d sound s c a r e p taken accepted q)

-- a hold of a route after an act that neither sets nor clears it
pub granted_by_set_or_clear : (d : Drawing) → GrantedBySetOrClear d
granted_by_set_or_clear d s a r e p other = from (answer (sheets_of d) s a) refl
  where
    from : (o : Option Refusal) → answer (sheets_of d) s a ≡ o → Holds (performed (sheets_of d) s a) r e p → Holds s r e p
    from None h held =
        let t = sheets_of d in
        let hold = hold_is t s a h e in
        let before =
        held_before t s r a h (λ is. other (subst (SetsOrClears r) (sym is) sets)) (λ is. other (subst (SetsOrClears r) (sym is) clears)) e
        (sym (ap (λ (x : Hold). contains x.routes r) hold) ∙ held.0) in
        (before.0, sym before.1 ∙ (sym (ap (λ (x : Hold). x.position) hold) ∙ held.1))
    from (Some x) h held =
        let t = sheets_of d in
        subst (λ (y : Situation). Holds y r e p) (ap (λ (o : Option Refusal). unless o t s (after t s a)) h) held
