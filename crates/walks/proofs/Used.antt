-- The table of used elements has exactly the elements that the route uses.
use Rattle.std.proofs.Common.{◌≡◌, ℕ, zero, suc, ◌-◌, ◌<◌, ◌≤◌, Bool, true, false, cond, ◌⊎◌, List, [], ◌∷◌, length, get_or, drop, set, replicate, sym, refl, ◌∙◌, inl, inr, ⊎_elim, one-add, arith, length-drop, length-set, length-take, get_or-drop, get_or-take}
use lib.ListN.{length-replicate, get_or-replicate}
use Rattle.std.proofs.lemmas.List.{get_or_past, get_or-set_same, get_or-set_other}
use Rattle.std.proofs.lemmas.Bool.{cases_eq, cases_lt, both_ways}
use Rattle.layout.specs.declared.element.Element.{Element}
use Rattle.layout.specs.declared.route.Route.{Route}
use Rattle.layout.specs.Kinds.{is_sectioned}
use Rattle.layout.specs.Ports.{at}
use Rattle.layout.specs.Ways.{place, inner}
use Rattle.layout.specs.Uses.{path_of, overlap_of, Uses}
use Rattle.paths.specs.Sound.{Within}
use Rattle.flank.specs.Used.{with_one, with_used, used_table}

module _ (es : List Element) where
  one_length : (x : ℕ) (t : List Bool) → length (with_one es x t) ≡ length t
  one_length x t = go (is_sectioned (at es x).kind)
    where
      go : (b : Bool) → length (cond b (set t x true) t) ≡ length t
      go true = length-set t x true
      go false = refl

  one_from : (x : ℕ) (t : List Bool) (e : ℕ) → get_or (with_one es x t) e false ≡ true
      → (get_or t e false ≡ true) ⊎ ((x ≡ e) × (is_sectioned (at es e).kind ≡ true))
  one_from x t e h = go (is_sectioned (at es x).kind) refl (cases_eq x e)
    where
      go : (b : Bool) → is_sectioned (at es x).kind ≡ b → (x ≡ e) ⊎ (x ≡ e → ⊥)
          → (get_or t e false ≡ true) ⊎ ((x ≡ e) × (is_sectioned (at es e).kind ≡ true))
      go true s (inl i) = inr (i, rw i at s)
      go true s (inr n) = inl (sym (get_or-set_other t x e true false (λ i. n (sym i))) ∙ (rw s at h))
      go false s d = inl (rw s at h)

  one_keeps : (x : ℕ) (t : List Bool) (e : ℕ) → e < length t → get_or t e false ≡ true → get_or (with_one es x t) e false ≡ true
  one_keeps x t e l h = go (is_sectioned (at es x).kind) (cases_eq x e)
    where
      go : (b : Bool) → (x ≡ e) ⊎ (x ≡ e → ⊥) → get_or (cond b (set t x true) t) e false ≡ true
      go true (inl i) = rw i (get_or-set_same t e true false l)
      go true (inr n) = get_or-set_other t x e true false (λ i. n (sym i)) ∙ h
      go false d = h

  one_sets : (t : List Bool) (e : ℕ) → e < length t → is_sectioned (at es e).kind ≡ true → get_or (with_one es e t) e false ≡ true
  one_sets t e l s = rw s (get_or-set_same t e true false l)

  used_length : (way : List ℕ) (t : List Bool) → length (with_used es way t) ≡ length t
  unfolding with_used
  used_length [] t = refl
  used_length (x ∷ way) t = used_length way (with_one es x t) ∙ one_length x t

  used_from : (way : List ℕ) (t : List Bool) (e : ℕ) → get_or (with_used es way t) e false ≡ true
      → (get_or t e false ≡ true) ⊎ ((k : ℕ) × (k < length way) × (place way k ≡ e) × (is_sectioned (at es e).kind ≡ true))
  unfolding with_used
  used_from [] t e h = inl h
  used_from (x ∷ way) t e h =
      ⊎_elim (λ a. ⊎_elim (λ b. inl b) (λ b. inr (0, omega arith, b.0, b.1)) (one_from x t e a)) (λ a. inr (suc a.0, omega (arith, a.1), a.2, a.3))
      (used_from way (with_one es x t) e h)

  used_keeps : (way : List ℕ) (t : List Bool) (e : ℕ) → e < length t → get_or t e false ≡ true → get_or (with_used es way t) e false ≡ true
  unfolding with_used
  used_keeps [] t e l h = h
  used_keeps (x ∷ way) t e l h = used_keeps way (with_one es x t) e (rw (one_length x t) l) (one_keeps x t e l h)

  used_at : (way : List ℕ) (t : List Bool) (e k : ℕ) → e < length t → k < length way → place way k ≡ e → is_sectioned (at es e).kind ≡ true
      → get_or (with_used es way t) e false ≡ true
  unfolding with_used
  used_at [] t e k l m i s = absurd (omega arith)
  used_at (x ∷ way) t e zero l m i s = used_keeps way (with_one es x t) e (rw (one_length x t) l) (rw i (one_sets t e l s))
  used_at (x ∷ way) t e (suc k) l m i s = used_at way (with_one es x t) e k (rw (one_length x t) l) (omega arith) i s

pub inner_length : (path : List ℕ) → length (inner path) ≡ length path - 1 - 1
inner_length path = simp (length-take, length-drop) (omega arith)

pub inner_place : (path : List ℕ) (k : ℕ) → k < length path - 1 - 1 → place (inner path) k ≡ place path (suc k)
inner_place path k h = get_or-take (length path - 1 - 1) (drop 1 path) k 0 h ∙ (get_or-drop 1 path k 0 ∙ rw one-add)

none_used : (n e : ℕ) → get_or (replicate n false) e false ≡ false
none_used n e =
    ⊎_elim (λ l. get_or-replicate n e false false l) (λ l. get_or_past (replicate n false) e false (rw (length-replicate n false) l)) (cases_lt e n)

module _ (es : List Element) (r : Route) where
  pub from_table : (e : ℕ) → get_or (used_table es r) e false ≡ true → Uses es r e
  unfolding used_table
  from_table e h =
      ⊎_elim
      (λ a.
      ⊎_elim (λ b. absurd (both_ways _ (none_used 96 e) b))
      (λ b.
      let low : b.0 < length (path_of r) - 1 - 1 = omega (arith, b.1, inner_length (path_of r)) in
      inl
      (record {
        at_place = b.0;
        between = record { is = sym (inner_place (path_of r) b.0 low) ∙ b.2; within = omega arith };
        sectioned = b.3;
      }))
      (used_from es (inner (path_of r)) (replicate 96 false) e a))
      (λ a. inr (record { at_place = a.0; within = a.1; is = a.2; sectioned = a.3 }))
      (used_from es (overlap_of r) (with_used es (inner (path_of r)) (replicate 96 false)) e h)

  module _ (few : length es ≤ 96) (path : Within es (path_of r)) (overlap : Within es (overlap_of r)) where
    pub to_table : (e : ℕ) → Uses es r e → get_or (used_table es r) e false ≡ true
    unfolding used_table
    to_table e (inl a) =
        let k : ℕ = a.at_place in
        let last : suc (suc k) < length (path_of r) = a.between.within in
        let low : k < length (path_of r) - 1 - 1 = omega arith in
        let small : e < 96 = omega (arith, path (suc k) (omega arith), a.between.is) in
        let size : length (with_used es (inner (path_of r)) (replicate 96 false)) ≡ 96 = used_length es (inner (path_of r)) (replicate 96 false) in
        used_keeps es (overlap_of r) (with_used es (inner (path_of r)) (replicate 96 false)) e (omega arith)
        (used_at es (inner (path_of r)) (replicate 96 false) e k small (omega (arith, inner_length (path_of r))) (inner_place (path_of r) k low ∙ a.between.is) a.sectioned)
    to_table e (inr a) =
        let small : e < 96 = omega (arith, overlap a.at_place a.within, a.is) in
        let size : length (with_used es (inner (path_of r)) (replicate 96 false)) ≡ 96 = used_length es (inner (path_of r)) (replicate 96 false) in
        used_at es (overlap_of r) (with_used es (inner (path_of r)) (replicate 96 false)) e a.at_place (omega arith) a.within a.is a.sectioned
