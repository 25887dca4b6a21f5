-- The free leg that the search finds at a point inside a way is the leg by which the way does not pass.
use Rattle.std.proofs.Common.{◌≡◌, ℕ, zero, suc, ◌<◌, Bool, true, false, cond, ◌||◌, eqb, ◌⊎◌, List, [], ◌∷◌, length, Some, None, Option, sym, refl, ap, ◌∙◌, inl, inr, ⊎_elim, arith}
use Rattle.std.proofs.lemmas.Bool.{both_ways, cases_order, eqb-true, eqb-false, eq-eqb, or_cases, or_left, or_right}
use Rattle.layout.specs.declared.element.Element.{Element}
use Rattle.layout.specs.declared.element.Join.{Join}
use Rattle.layout.specs.declared.kind.Kind.TheVariants as kind
use Rattle.layout.specs.declared.position.Position.{Position}
use Rattle.layout.specs.declared.position.Position.TheVariants as position
use Rattle.layout.specs.Ports.{at, joined}
use Rattle.layout.specs.Ways.{port, place, Turns, Runs}
use Rattle.layout.specs.Uses.{Between, PassesBy, leg, FlankOf}
use Rattle.layout.specs.Sound.{SoundElements}
use Rattle.paths.specs.Sound.{Within, Once}
use Rattle.flank.specs.Flanks.{leads_to, free_leg, flank_in}
use Rattle.walks.proofs.Net.{join_low}

test_leads : (o : Option Join) (a : ℕ) → leads_to o a ≡ true → (q : ℕ) × (o ≡ Some (port a q))
test_leads None a e = cc
test_leads (Some far) a e = let s = eqb-true far.element a e in (far.port, λ i. Some (record { element = s i; port = far.port }))

leads_test : (o : Option Join) (a q : ℕ) → o ≡ Some (port a q) → leads_to o a ≡ true
leads_test o a q h = ap (λ (x : Option Join). leads_to x a) h ∙ eq-eqb a a refl

-- the element at the place suc k of a way that runs, where it is a point
module _ (es : List Element) (sound : SoundElements es) (way : List ℕ) (within : Within es way) (runs : Runs es way)
    (k : ℕ) (short : suc (suc k) < length way) (is_point : (at es (place way (suc k))).kind ≡ kind.Point) where
  entered : joined es (place way (suc k)) (runs.enters (suc k)) ≡ Some (port (place way k) (runs.leaves k))
  entered = sound.joins.back (place way k) (runs.leaves k) (port (place way (suc k)) (runs.enters (suc k))) (within k (omega arith)) (runs.joins k (omega arith))

  left : joined es (place way (suc k)) (runs.leaves (suc k)) ≡ Some (port (place way (suc (suc k))) (runs.enters (suc (suc k))))
  left = runs.joins (suc k) short

  pub low_entered : runs.enters (suc k) < 3
  low_entered = rw is_point at (join_low es sound (place way (suc k)) (runs.enters (suc k)) _ (within (suc k) (omega arith)) entered)

  pub low_left : runs.leaves (suc k) < 3
  low_left = rw is_point at (join_low es sound (place way (suc k)) (runs.leaves (suc k)) _ (within (suc k) (omega arith)) left)

  pub turned : Turns kind.Point (runs.enters (suc k)) (runs.leaves (suc k))
  turned = rw is_point at (runs.turns (suc k) (omega arith) short)

  by_ports : (p : ℕ) → PassesBy es way k p → (p ≡ runs.enters (suc k)) ⊎ (p ≡ runs.leaves (suc k))
  by_ports p (inl h) = inl (sound.joins.once (place way (suc k)) p (runs.enters (suc k)) _ _ (within (suc k) (omega arith)) h.1 entered refl)
  by_ports p (inr h) = inr (sound.joins.once (place way (suc k)) p (runs.leaves (suc k)) _ _ (within (suc k) (omega arith)) h.1 left refl)

  pub ports_by : (p : ℕ) → (p ≡ runs.enters (suc k)) ⊎ (p ≡ runs.leaves (suc k)) → PassesBy es way k p
  ports_by p (inl i) = inl (runs.leaves k, rw i entered)
  ports_by p (inr i) = inr (runs.enters (suc (suc k)), rw i left)

  -- a way passes by one leg
  pub one_leg : PassesBy es way k 1 → PassesBy es way k 2 → ⊥
  one_leg a b = go (by_ports 1 a) (by_ports 2 b) (turned.1 refl)
    where
      go : (1 ≡ runs.enters (suc k)) ⊎ (1 ≡ runs.leaves (suc k)) → (2 ≡ runs.enters (suc k)) ⊎ (2 ≡ runs.leaves (suc k))
          → (runs.enters (suc k) ≡ 0) ⊎ (runs.leaves (suc k) ≡ 0) → ⊥
      go (inl x) (inl y) z = omega arith
      go (inl x) (inr y) (inl z) = omega arith
      go (inl x) (inr y) (inr z) = omega arith
      go (inr x) (inl y) (inl z) = omega arith
      go (inr x) (inl y) (inr z) = omega arith
      go (inr x) (inr y) z = omega arith

  some_leg : (PassesBy es way k 1 → ⊥) → (PassesBy es way k 2 → ⊥) → ⊥
  some_leg a b = go (cases_order (runs.enters (suc k)) 1) (cases_order (runs.leaves (suc k)) 1)
    where
      go : (runs.enters (suc k) ≡ 1) ⊎ ((runs.enters (suc k) < 1) ⊎ (1 < runs.enters (suc k)))
          → (runs.leaves (suc k) ≡ 1) ⊎ ((runs.leaves (suc k) < 1) ⊎ (1 < runs.leaves (suc k))) → ⊥
      go (inl x) y = a (ports_by 1 (inl (sym x)))
      go (inr (inr x)) y = b (ports_by 2 (inl (omega (arith, low_entered))))
      go (inr (inl x)) (inl y) = a (ports_by 1 (inr (sym y)))
      go (inr (inl x)) (inr (inr y)) = b (ports_by 2 (inr (omega (arith, low_left))))
      go (inr (inl x)) (inr (inl y)) = turned.0 (omega arith)

  abbrev plus_passed : Bool
  plus_passed = leads_to (joined es (place way (suc k)) 1) (place way k) || leads_to (joined es (place way (suc k)) 1) (place way (suc (suc k)))

  test_passed : plus_passed ≡ true → PassesBy es way k 1
  test_passed e = ⊎_elim (λ l. inl (test_leads _ _ l)) (λ l. inr (test_leads _ _ l)) (or_cases _ _ e)

  passed_test : PassesBy es way k 1 → plus_passed ≡ true
  passed_test (inl h) = or_left _ _ (leads_test _ _ h.0 h.1)
  passed_test (inr h) = or_right _ _ (leads_test _ _ h.0 h.1)

  pub free_is : (p : Position) → (PassesBy es way k (leg p) → ⊥) → free_leg es (place way k) (place way (suc k)) (place way (suc (suc k))) ≡ p
  free_is p n = go p n plus_passed refl
    where
      go : (p : Position) → (PassesBy es way k (leg p) → ⊥) → (b : Bool) → plus_passed ≡ b → cond plus_passed position.Minus position.Plus ≡ p
      go position.Plus n true e = absurd (n (test_passed e))
      go position.Plus n false e = rw e
      go position.Minus n true e = rw e
      go position.Minus n false e = absurd (some_leg (λ h. both_ways _ e (passed_test h)) n)

  pub is_free : (p : Position) → free_leg es (place way k) (place way (suc k)) (place way (suc (suc k))) ≡ p → PassesBy es way k (leg p) → ⊥
  is_free p e h = go plus_passed refl
    where
      on : (x : Position) → x ≡ p → PassesBy es way k (leg x)
      on x i = rw i h

      go : (b : Bool) → plus_passed ≡ b → ⊥
      go true t = one_leg (test_passed t) (on position.Minus (rw t at e))
      go false t = both_ways _ t (passed_test (on position.Plus (rw t at e)))

-- where the search finds a point inside a way
abbrev pub Found : List Element → List ℕ → ℕ → Position → Type 0
Found es way e p = (k : ℕ) × Between way e k × (p ≡ free_leg es (place way k) e (place way (suc (suc k))))

module _ (es : List Element) (e : ℕ) where
  pub found_in : (rest : List ℕ) (before : ℕ) (p : Position) → flank_in es before rest e ≡ Some p → Found es (before ∷ rest) e p
  unfolding flank_in
  found_in [] before p h = cc
  found_in (x ∷ []) before p h = cc
  found_in (x ∷ y ∷ ys) before p h = go (found_in (y ∷ ys) x p) (eqb x e) refl
    where
      go : (flank_in es x (y ∷ ys) e ≡ Some p → Found es (x ∷ y ∷ ys) e p) → (b : Bool) → eqb x e ≡ b → Found es (before ∷ x ∷ y ∷ ys) e p
      go ih true i =
          let here : ◌≡◌ {A = Option Position} (Some (free_leg es before e y)) (Some p) = rw (i, flank_in) at h in
          (0, record { is = eqb-true x e i; within = omega arith }, (cc))
      go ih false i =
          let s = ih (rw (i, flank_in) at h) in
          (suc s.0, record { is = s.1.is; within = omega (arith, s.1.within) }, s.2)

  in_found : (rest : List ℕ) (before k : ℕ) → Between (before ∷ rest) e k → (p : Position) × (flank_in es before rest e ≡ Some p)
  unfolding flank_in
  in_found [] before k b = absurd (omega (arith, b.within))
  in_found (x ∷ []) before k b = absurd (omega (arith, b.within))
  in_found (x ∷ y ∷ ys) before k b = go (in_found (y ∷ ys) x) (eqb x e) refl k b
    where
      go : ((k : ℕ) → Between (x ∷ y ∷ ys) e k → (p : Position) × (flank_in es x (y ∷ ys) e ≡ Some p)) → (b : Bool) → eqb x e ≡ b
          → (k : ℕ) → Between (before ∷ x ∷ y ∷ ys) e k → (p : Position) × (flank_in es before (x ∷ y ∷ ys) e ≡ Some p)
      go ih true i k w = (free_leg es before e y, rw (i, flank_in))
      go ih false i zero w = absurd (eqb-false x e i w.is)
      go ih false i (suc k) w =
          let s = ih k (record { is = w.is; within = omega (arith, w.within) }) in
          (s.0, rw (i, flank_in) s.1)

-- an element stands at one place of a way
one_place : (way : List ℕ) → Once way → (e j k : ℕ) → Between way e j → Between way e k → j ≡ k
one_place way once e j k a b =
    ⊎_elim (λ i. i)
    (⊎_elim (λ l. absurd (once (suc j) (suc k) (omega arith) (omega (arith, b.within)) (a.is ∙ sym b.is)))
    (λ l. absurd (once (suc k) (suc j) (omega arith) (omega (arith, a.within)) (b.is ∙ sym a.is)))) (cases_order j k)

module _ (es : List Element) (sound : SoundElements es) (before : ℕ) (rest : List ℕ) (within : Within es (before ∷ rest)) (once : Once (before ∷ rest))
    (runs : Runs es (before ∷ rest)) (e : ℕ) (p : Position) where
  abbrev way : List ℕ
  way = before ∷ rest

  pub leg_flank : (at es e).kind ≡ kind.Point → flank_in es before rest e ≡ Some p → FlankOf es way e p
  leg_flank point h =
      let s = found_in es e rest before p h in
      let k : ℕ = s.0 in
      let is : place way (suc k) ≡ e = s.1.is in
      let point' : (at es (place way (suc k))).kind ≡ kind.Point = ap (λ n. (at es n).kind) is ∙ point in
      let leg_is : free_leg es (place way k) (place way (suc k)) (place way (suc (suc k))) ≡ p =
      ap (λ n. free_leg es (place way k) n (place way (suc (suc k)))) is ∙ sym s.2
      in
      record { at_place = k; between = s.1; point = point; free = is_free es sound way within runs k s.1.within point' p leg_is }

  pub flank_leg : FlankOf es way e p → flank_in es before rest e ≡ Some p
  flank_leg f =
      let s = in_found es e rest before f.at_place f.between in
      let t = found_in es e rest before s.0 s.1 in
      let k : ℕ = f.at_place in
      let same : t.0 ≡ k = one_place way once e t.0 k t.1 f.between in
      let is : place way (suc k) ≡ e = f.between.is in
      let point' : (at es (place way (suc k))).kind ≡ kind.Point = ap (λ n. (at es n).kind) is ∙ f.point in
      let leg_is : free_leg es (place way k) (place way (suc k)) (place way (suc (suc k))) ≡ p = free_is es sound way within runs k f.between.within point' p f.free in
      s.1 ∙ ap (λ (x : Position). Some x)
      (t.2 ∙ (ap (λ n. free_leg es (place way n) e (place way (suc (suc n)))) same
      ∙ (ap (λ n. free_leg es (place way k) n (place way (suc (suc k)))) (sym is) ∙ leg_is)))
