-- An element that the route does not use has no flank.
use Rattle.std.proofs.Common.{◌≡◌, ℕ, zero, suc, ◌-◌, ◌<◌, Bool, true, false, cond, eqb, ◌⊎◌, List, [], ◌∷◌, length, get_or, drop, set, replicate, Some, None, Option, sym, refl, ap, ◌∙◌, subst, inl, inr, ⊎_elim, one-add, arith, length-drop, length-set, length-take, get_or-drop, get_or-take}
use Rattle.std.proofs.lemmas.List.{get_or-set_same, get_or-set_other}
use Rattle.std.proofs.lemmas.Bool.{both_ways, cases_eq, eqb-true}
use Rattle.std.proofs.lemmas.Option.{none-some}
use Rattle.std.specs.Option.{option_or}
use Rattle.layout.specs.declared.element.Element.{Element}
use Rattle.layout.specs.declared.position.Position.{Position}
use Rattle.layout.specs.declared.route.Route.{Route}
use Rattle.layout.specs.Kinds.{is_point, is_sectioned}
use Rattle.layout.specs.Ports.{at}
use Rattle.layout.specs.Ways.{place, inner}
use Rattle.layout.specs.Uses.{path_of, overlap_of, Between}
use Rattle.layout.proofs.KindTests.{point_test}
use Rattle.flank.specs.declared.answers.Mark.{Mark}
use Rattle.flank.specs.declared.flanks.Flank.{Flank}
use Rattle.flank.specs.Flanks.{flank_in, path_spare, with_spare, flank_over, flank_of}
use Rattle.flank.specs.Used.{with_one, with_used, used_table}
use Rattle.flank.specs.Protection.{flank_marks}

-- the table keeps what is used, and has the elements of a way
module _ (es : List Element) where
  one_length : (x : ℕ) (t : List Bool) → length (with_one es x t) ≡ length t
  one_length x t = go (is_sectioned (at es x).kind)
    where
      go : (b : Bool) → length (cond b (set t x true) t) ≡ length t
      go true = length-set t x true
      go false = refl

  one_keeps : (x : ℕ) (t : List Bool) (e : ℕ) → e < length t → get_or t e false ≡ true → get_or (with_one es x t) e false ≡ true
  one_keeps x t e l h = go (is_sectioned (at es x).kind) (cases_eq x e)
    where
      go : (b : Bool) → (x ≡ e) ⊎ (x ≡ e → ⊥) → get_or (cond b (set t x true) t) e false ≡ true
      go true (inl i) = rw i (get_or-set_same t e true false l)
      go true (inr n) = get_or-set_other t x e true false (λ i. n (sym i)) ∙ h
      go false d = h

  one_sets : (t : List Bool) (e : ℕ) → e < length t → is_sectioned (at es e).kind ≡ true → get_or (with_one es e t) e false ≡ true
  one_sets t e l s = rw s (get_or-set_same t e true false l)

  used_length : (way : List ℕ) (t : List Bool) → length (with_used es way t) ≡ length t
  unfolding with_used
  used_length [] t = refl
  used_length (x ∷ way) t = used_length way (with_one es x t) ∙ one_length x t

  used_keeps : (way : List ℕ) (t : List Bool) (e : ℕ) → e < length t → get_or t e false ≡ true → get_or (with_used es way t) e false ≡ true
  unfolding with_used
  used_keeps [] t e l h = h
  used_keeps (x ∷ way) t e l h = used_keeps way (with_one es x t) e (rw (one_length x t) l) (one_keeps x t e l h)

  used_at : (way : List ℕ) (t : List Bool) (e k : ℕ) → e < length t → k < length way → place way k ≡ e → is_sectioned (at es e).kind ≡ true
      → get_or (with_used es way t) e false ≡ true
  unfolding with_used
  used_at [] t e k l m i s = absurd (omega arith)
  used_at (x ∷ way) t e zero l m i s = used_keeps way (with_one es x t) e (rw (one_length x t) l) (rw i (one_sets t e l s))
  used_at (x ∷ way) t e (suc k) l m i s = used_at way (with_one es x t) e k (rw (one_length x t) l) (omega arith) i s

inner_length : (path : List ℕ) → length (inner path) ≡ length path - 1 - 1
inner_length path = simp (length-take, length-drop) (omega arith)

inner_place : (path : List ℕ) (k : ℕ) → k < length path - 1 - 1 → place (inner path) k ≡ place path (suc k)
inner_place path k h = get_or-take (length path - 1 - 1) (drop 1 path) k 0 h ∙ (get_or-drop 1 path k 0 ∙ rw one-add)

-- an element with a free leg stands inside the way
module _ (es : List Element) (e : ℕ) where
  inside : (rest : List ℕ) (before : ℕ) (p : Position) → flank_in es before rest e ≡ Some p → (k : ℕ) × Between (before ∷ rest) e k
  unfolding flank_in
  inside [] before p h = cc
  inside (x ∷ []) before p h = cc
  inside (x ∷ y ∷ ys) before p h = go (inside (y ∷ ys) x p) (eqb x e) refl
    where
      go : (flank_in es x (y ∷ ys) e ≡ Some p → (k : ℕ) × Between (x ∷ y ∷ ys) e k) → (b : Bool) → eqb x e ≡ b → (k : ℕ) × Between (before ∷ x ∷ y ∷ ys) e k
      go ih true i = (0, record { is = eqb-true x e i; within = omega arith })
      go ih false i =
          let s = ih (rw (i, flank_in) at h) in
          (suc s.0, record { is = s.1.is; within = omega (arith, s.1.within) })

either_way : (a b : Option Position) (spare : ℕ) (f : Flank) → option_or (with_spare a spare) (with_spare b 0) ≡ Some f
    → (a ≡ Some f.leg) ⊎ (b ≡ Some f.leg)
either_way (Some p) b spare f h = inl (cc)
either_way None (Some p) spare f h = inr (cc)
either_way None None spare f h = cc

module _ (es : List Element) (r : Route) (e : ℕ) (low : e < 96) where
  used_in_path : is_sectioned (at es e).kind ≡ true → (k : ℕ) → Between (path_of r) e k → get_or (used_table es r) e false ≡ true
  unfolding used_table
  used_in_path s k b =
      let last : suc (suc k) < length (path_of r) = b.within in
      let short : k < length (path_of r) - 1 - 1 = omega arith in
      let size : length (with_used es (inner (path_of r)) (replicate 96 false)) ≡ 96 = used_length es (inner (path_of r)) (replicate 96 false) in
      used_keeps es (overlap_of r) (with_used es (inner (path_of r)) (replicate 96 false)) e (omega arith)
      (used_at es (inner (path_of r)) (replicate 96 false) e k low (omega (arith, inner_length (path_of r))) (inner_place (path_of r) k short ∙ b.is) s)

  used_in_overlap : is_sectioned (at es e).kind ≡ true → (before k : ℕ) → Between (before ∷ overlap_of r) e k → get_or (used_table es r) e false ≡ true
  unfolding used_table
  used_in_overlap s before k b =
      let size : length (with_used es (inner (path_of r)) (replicate 96 false)) ≡ 96 = used_length es (inner (path_of r)) (replicate 96 false) in
      used_at es (overlap_of r) (with_used es (inner (path_of r)) (replicate 96 false)) e k (omega arith) (omega (arith, b.within)) b.is s

  used_over : (path : List ℕ) → path_of r ≡ path → (f : Flank) → flank_over es r.class path (overlap_of r) e ≡ Some f → get_or (used_table es r) e false ≡ true
  unfolding flank_over
  used_over [] i f h = cc
  used_over (x ∷ xs) i f h = go (is_point (at es e).kind) refl
    where
      go : (b : Bool) → is_point (at es e).kind ≡ b → get_or (used_table es r) e false ≡ true
      go true p =
          let s : is_sectioned (at es e).kind ≡ true = ap is_sectioned (point_test _ p) in
          ⊎_elim
          (λ a. let w = inside es e xs x f.leg a in used_in_path s w.0 (subst (λ (l : List ℕ). Between l e w.0) (sym i) w.1))
          (λ a. let w = inside es e (overlap_of r) _ f.leg a in used_in_overlap s _ w.0 w.1)
          (either_way _ _ (path_spare r.class) f (rw (p, flank_over) at h))
      go false p = absurd (none-some f (rw (p, flank_over) at h))

  pub unused_none : get_or (used_table es r) e false ≡ false → flank_of es r e ≡ None
  unused_none h = go (flank_of es r e) refl
    where
      go : (o : Option Flank) → flank_of es r e ≡ o → flank_of es r e ≡ None
      go None i = i
      go (Some f) i = absurd (both_ways _ h (used_over (path_of r) refl f i))

  pub unused_marks : (t : List Mark) → get_or (used_table es r) e false ≡ false → t ≡ flank_marks es (used_table es r) e (flank_of es r e) t
  unused_marks t h = rw (unused_none h)
