-- The protection of a route of a sound plan lists exactly the elements that walks come to, and exactly the branches that end open.
use Rattle.std.proofs.Common.{◌≡◌, ℕ, Bool, true, List, [], ◌∷◌, map, sym, refl, ap, ◌∙◌, subst, inl, inr}
use Rattle.layout.specs.declared.drawing.Drawing.{Drawing}
use Rattle.layout.specs.declared.position.Position.{Position}
use Rattle.flank.specs.declared.answers.Request.{Request}
use Rattle.flank.specs.Protection.{request, requests_of}
use Rattle.walks.specs.Walks.{Requested}
use Rattle.walks.specs.Exactly.{In}
use Rattle.walks.proofs.Exactly.{requests_exact, branches_exact}
use Rattle.plan.specs.Flanks.{route_of}
use Rattle.plan.specs.Sound.{SoundPlan}
use Rattle.sheetlaws.specs.Routes.{Exactly, elements_of, HasRoute}
use Rattle.holds.specs.declared.interlocking.Interlocking.{Interlocking}
use Rattle.holds.specs.Holds.{held_in}
use Rattle.holds.specs.Interlockings.{hold_of}
use Rattle.acts.specs.Situations.{Situation}
use Rattle.protection.specs.declared.shield.Shield.{Shield}
use Rattle.protection.specs.Shields.{shield_of, shields_of}
use Rattle.runlaws.proofs.Admitted.{same_truth}
use Rattle.runlaws.proofs.ReadyExact.{held_from}
use Rattle.runlaws.proofs.Runs.{held_told}
use Rattle.safety.specs.Words.{Holds}
use Rattle.station.specs.Shields.{shield, ShieldsExact, OpenBranchesExact}

module _ (i : Interlocking) (r : ℕ) where
  -- a request is listed as a shield
  listed : (q : Request) (qs : List Request) → In q qs → In (shield_of i r q) (map (shield_of i r) qs)
  listed q [] h = h
  listed q (x ∷ xs) (inl same) = inl (ap (shield_of i r) same)
  listed q (x ∷ xs) (inr rest) = inr (listed q xs rest)

  -- a shield that is listed is one of a request
  listed_from : (x : Shield) (qs : List Request) → In x (map (shield_of i r) qs) → (q : Request) × In q qs × (shield_of i r q ≡ x)
  listed_from x [] h = absurd h
  listed_from x (q ∷ qs) (inl same) = (q, inl refl, same)
  listed_from x (q ∷ qs) (inr rest) = let found = listed_from x qs rest in (found.0, inr found.1, found.2)

  -- a shield that is listed is that of the request with its element and position
  listed_as : (qs : List Request) (e : ℕ) (p : Position) (held : Bool) → In (shield e p held) (map (shield_of i r) qs)
      → In (request e p) qs × (held_in (hold_of i e) r p ≡ held)
  listed_as qs e p held h =
      let found = listed_from (shield e p held) qs h in
      let q = found.0 in
      let is : q ≡ request e p = λ k. record { element = (found.2 k).element; position = (found.2 k).position } in (
        subst (λ (x : Request). In x qs) is found.1,
        sym (ap (λ (x : Request). held_in (hold_of i x.element) r x.position) is) ∙ ap (λ (x : Shield). x.held) found.2,
      )

-- what is listed as held is held
held_exactly : (s : Situation) (r e : ℕ) (p : Position) (held : Bool) → held_in (hold_of s.inner e) r p ≡ held → Exactly (held ≡ true) (Holds s r e p)
held_exactly s r e p held is = (λ h. held_told s.inner r e p (is ∙ h), λ h. sym is ∙ held_from s.inner r e p h)

-- what is held exactly where it is listed as held is listed so
held_as : (s : Situation) (r e : ℕ) (p : Position) (held : Bool) → Exactly (held ≡ true) (Holds s r e p) → held_in (hold_of s.inner e) r p ≡ held
held_as s r e p held exact =
    same_truth (held_in (hold_of s.inner e) r p) held (λ h. exact.1 (held_told s.inner r e p h)) (λ h. held_from s.inner r e p (exact.0 h))

pub shields_exact : (d : Drawing) → SoundPlan d → ShieldsExact d
shields_exact d plan s r known e p held =
    let qs = requests_of (elements_of d) (route_of d r) in
    let exact = requests_exact (elements_of d) (route_of d r) plan.elements plan.few_elements (plan.paths r known) (plan.overlaps r known) e p in (
      λ h. let from = listed_as s.inner r qs e p held h in (exact.1 from.0, held_exactly s r e p held from.1),
      λ h.
          subst (λ (b : Bool). In (shield e p b) (shields_of (elements_of d) (route_of d r) s.inner r)) (held_as s r e p held h.1)
          (listed s.inner r (request e p) qs (exact.0 h.0)),
    )

pub open_branches_exact : (d : Drawing) → SoundPlan d → OpenBranchesExact d
open_branches_exact d plan r known u l =
    let exact = branches_exact (elements_of d) (route_of d r) plan.elements plan.few_elements (plan.paths r known) (plan.overlaps r known) u l in
    (exact.1, exact.0)
