-- A table has a finding marked exactly if some walk found it, and a list has exactly what its table has marked.
use Rattle.std.proofs.Common.{◌≡◌, ℕ, zero, suc, ◌<◌, Bool, true, false, cond, ◌⊎◌, List, [], ◌∷◌, length, get_or, set, Some, None, Option, sym, refl, ap, ◌∙◌, subst, inl, inr, ⊎_elim, arith, length-set}
use lib.ListN.{get_or-replicate}
use Rattle.std.proofs.lemmas.List.{get_or-set_same, get_or-set_other}
use Rattle.std.proofs.lemmas.Bool.{cases_eq, both_ways}
use Rattle.layout.specs.declared.element.Element.{Element}
use Rattle.layout.specs.declared.position.Position.{Position}
use Rattle.layout.specs.declared.position.Position.TheVariants as position
use Rattle.layout.specs.declared.route.Route.{Route}
use Rattle.layout.specs.Ways.{port}
use Rattle.layout.specs.Uses.{leg}
use Rattle.flank.specs.declared.answers.Mark.{Mark}
use Rattle.flank.specs.declared.answers.Request.{Request}
use Rattle.flank.specs.declared.answers.Branch.{Branch}
use Rattle.flank.specs.declared.flanks.Flank.{Flank as Leg}
use Rattle.flank.specs.Signals.{far_end}
use Rattle.flank.specs.Used.{used_table}
use Rattle.flank.specs.Search.{Finding, shield, open_end, walk, unmarked, asked, opened, mark, marks}
use Rattle.flank.specs.Flanks.{flank_of}
use Rattle.flank.specs.Protection.{flank_marks, no_marks, marks_below, request, branch, requests_at, requests_in, branch_at, branches_in, marks_of, branches_below}
use Rattle.flank.proofs.Turns.{no_marks_length}
use Rattle.walks.specs.Exactly.{In}
use Rattle.walks.proofs.Found.{in_left, in_right, in_either}

-- where a finding is marked, how, and whether it is
abbrev pub number_of : Finding → ℕ
number_of (shield e p) = e
number_of (open_end e) = e

abbrev added : Finding → Mark → Mark
added (shield e p) m = asked p m
added (open_end e) m = opened m

abbrev flag : Finding → Mark → Bool
flag (shield e position.Plus) m = m.plus
flag (shield e position.Minus) m = m.minus
flag (open_end e) m = m.open_end

abbrev pub Has : List Mark → Finding → Type 0
Has t g = flag g (get_or t (number_of g) unmarked) ≡ true

mark_is : (f : Finding) (t : List Mark) → mark f t ≡ set t (number_of f) (added f (get_or t (number_of f) unmarked))
mark_is (shield e p) t = refl
mark_is (open_end e) t = refl

flag_added : (f g : Finding) (m : Mark) → number_of f ≡ number_of g → flag g (added f m) ≡ true → (flag g m ≡ true) ⊎ (f ≡ g)
flag_added (shield a position.Plus) (shield b position.Plus) m i h = inr (ap (λ n. shield n position.Plus) i)
flag_added (shield a position.Plus) (shield b position.Minus) m i h = inl h
flag_added (shield a position.Minus) (shield b position.Plus) m i h = inl h
flag_added (shield a position.Minus) (shield b position.Minus) m i h = inr (ap (λ n. shield n position.Minus) i)
flag_added (shield a position.Plus) (open_end b) m i h = inl h
flag_added (shield a position.Minus) (open_end b) m i h = inl h
flag_added (open_end a) (shield b position.Plus) m i h = inl h
flag_added (open_end a) (shield b position.Minus) m i h = inl h
flag_added (open_end a) (open_end b) m i h = inr (ap open_end i)

added_keeps : (f g : Finding) (m : Mark) → flag g m ≡ true → flag g (added f m) ≡ true
added_keeps (shield a position.Plus) (shield b position.Plus) m h = refl
added_keeps (shield a position.Plus) (shield b position.Minus) m h = h
added_keeps (shield a position.Minus) (shield b position.Plus) m h = h
added_keeps (shield a position.Minus) (shield b position.Minus) m h = refl
added_keeps (shield a position.Plus) (open_end b) m h = h
added_keeps (shield a position.Minus) (open_end b) m h = h
added_keeps (open_end a) (shield b position.Plus) m h = h
added_keeps (open_end a) (shield b position.Minus) m h = h
added_keeps (open_end a) (open_end b) m h = refl

added_now : (g : Finding) (m : Mark) → flag g (added g m) ≡ true
added_now (shield e position.Plus) m = refl
added_now (shield e position.Minus) m = refl
added_now (open_end e) m = refl

flag_unmarked : (g : Finding) → flag g unmarked ≡ false
flag_unmarked (shield e position.Plus) = refl
flag_unmarked (shield e position.Minus) = refl
flag_unmarked (open_end e) = refl

mark_length : (f : Finding) (t : List Mark) → length (mark f t) ≡ length t
mark_length f t = ap length (mark_is f t) ∙ length-set t (number_of f) _

-- one finding marked
module _ (g : Finding) (t : List Mark) (low : number_of g < length t) where
  set_read : (a : ℕ) (m : Mark) → ((a ≡ number_of g) × (get_or (set t a m) (number_of g) unmarked ≡ m)) ⊎ (get_or (set t a m) (number_of g) unmarked ≡ get_or t (number_of g) unmarked)
  set_read a m =
      ⊎_elim (λ i. inl (i, rw i (get_or-set_same t (number_of g) m unmarked low))) (λ n. inr (get_or-set_other t a (number_of g) m unmarked (λ i. n (sym i)))) (cases_eq a (number_of g))

  mark_has : (f : Finding) → Has (mark f t) g → Has t g ⊎ (f ≡ g)
  mark_has f h =
      let read : flag g (get_or (set t (number_of f) (added f (get_or t (number_of f) unmarked))) (number_of g) unmarked) ≡ true =
      sym (ap (λ (x : List Mark). flag g (get_or x (number_of g) unmarked)) (mark_is f t)) ∙ h
      in
      ⊎_elim
      (λ s.
      ⊎_elim (λ a. inl (subst (λ n. flag g (get_or t n unmarked) ≡ true) s.0 a)) (λ a. inr a)
      (flag_added f g (get_or t (number_of f) unmarked) s.0 (sym (ap (flag g) s.1) ∙ read)))
      (λ s. inl (sym (ap (flag g) s) ∙ read)) (set_read (number_of f) (added f (get_or t (number_of f) unmarked)))

  has_mark : (f : Finding) → Has t g → Has (mark f t) g
  has_mark f h =
      ap (λ (x : List Mark). flag g (get_or x (number_of g) unmarked)) (mark_is f t)
      ∙ ⊎_elim (λ s. ap (flag g) s.1 ∙ added_keeps f g (get_or t (number_of f) unmarked) (subst (λ n. flag g (get_or t n unmarked) ≡ true) (sym s.0) h)) (λ s. ap (flag g) s ∙ h)
      (set_read (number_of f) (added f (get_or t (number_of f) unmarked)))

  has_now : Has (mark g t) g
  has_now =
      ap (λ (x : List Mark). flag g (get_or x (number_of g) unmarked)) (mark_is g t)
      ∙ (ap (flag g) (get_or-set_same t (number_of g) (added g (get_or t (number_of g) unmarked)) unmarked low) ∙ added_now g (get_or t (number_of g) unmarked))

-- all findings of a walk marked
module _ (g : Finding) where
  marks_length : (fs : List Finding) (t : List Mark) → length (marks fs t) ≡ length t
  unfolding marks
  marks_length [] t = refl
  marks_length (f ∷ fs) t = marks_length fs (mark f t) ∙ mark_length f t

  marks_has : (fs : List Finding) (t : List Mark) → number_of g < length t → Has (marks fs t) g → Has t g ⊎ In g fs
  unfolding marks
  marks_has [] t l h = inl h
  marks_has (f ∷ fs) t l h =
      ⊎_elim (λ a. ⊎_elim (λ b. inl b) (λ i. inr (inl i)) (mark_has g t l f a)) (λ i. inr (inr i)) (marks_has fs (mark f t) (rw (mark_length f t) l) h)

  has_before : (fs : List Finding) (t : List Mark) → number_of g < length t → Has t g → Has (marks fs t) g
  unfolding marks
  has_before [] t l h = h
  has_before (f ∷ fs) t l h = has_before fs (mark f t) (rw (mark_length f t) l) (has_mark g t l f h)

  has_in : (fs : List Finding) (t : List Mark) → number_of g < length t → In g fs → Has (marks fs t) g
  unfolding marks
  has_in [] t l h = absurd h
  has_in (f ∷ fs) t l (inl i) = has_before fs (mark f t) (rw (mark_length f t) l) (rw i (has_now g t l))
  has_in (f ∷ fs) t l (inr i) = has_in fs (mark f t) (rw (mark_length f t) l) i

none_marked : (g : Finding) → number_of g < 96 → Has no_marks g → ⊥
unfolding no_marks
none_marked g l h = both_ways _ (ap (flag g) (get_or-replicate 96 (number_of g) unmarked unmarked l) ∙ flag_unmarked g) h

module _ (es : List Element) (r : Route) where
  abbrev pub walk_from : ℕ → Leg → List Finding
  walk_from u f = walk f.spare es (used_table es r) (far_end es (port u (leg f.leg)))

  -- the flank of u finds g
  pub record Finds (g : Finding) (u : ℕ) : Type 0 where
    pub flank : Leg
    pub is : flank_of es r u ≡ Some flank
    pub finds : In g (walk_from u flank)

  flank_length : (u : ℕ) (o : Option Leg) (t : List Mark) → length (flank_marks es (used_table es r) u o t) ≡ length t
  flank_length u None t = refl
  flank_length u (Some f) t = marks_length (open_end 0) (walk_from u f) t

  flank_has : (g : Finding) (u : ℕ) (t : List Mark) → number_of g < length t → Has (flank_marks es (used_table es r) u (flank_of es r u) t) g → Has t g ⊎ Finds g u
  flank_has g u t l h = go (flank_of es r u) refl h
    where
      go : (o : Option Leg) → flank_of es r u ≡ o → Has (flank_marks es (used_table es r) u o t) g → Has t g ⊎ Finds g u
      go None i h = inl h
      go (Some f) i h = ⊎_elim inl (λ j. inr (record { flank = f; is = i; finds = j })) (marks_has g (walk_from u f) t l h)

  flank_keeps : (g : Finding) (u : ℕ) (o : Option Leg) (t : List Mark) → number_of g < length t → Has t g → Has (flank_marks es (used_table es r) u o t) g
  flank_keeps g u None t l h = h
  flank_keeps g u (Some f) t l h = has_before g (walk_from u f) t l h

  flank_finds : (g : Finding) (u : ℕ) (t : List Mark) → number_of g < length t → Finds g u → Has (flank_marks es (used_table es r) u (flank_of es r u) t) g
  flank_finds g u t l f = rw f.is (has_in g (walk_from u f.flank) t l f.finds)

  below_length : (n : ℕ) → length (marks_below es r n) ≡ 96
  unfolding marks_below
  below_length zero = no_marks_length
  below_length (suc n) = flank_length n (flank_of es r n) (marks_below es r n) ∙ below_length n

  -- the table of all flanks
  pub below_has : (g : Finding) → number_of g < 96 → (n : ℕ) → Has (marks_below es r n) g → (u : ℕ) × (u < n) × Finds g u
  unfolding marks_below
  below_has g l zero h = absurd (none_marked g l h)
  below_has g l (suc n) h =
      ⊎_elim (λ a. let s = below_has g l n a in (s.0, omega (arith, s.1), s.2)) (λ f. (n, omega arith, f))
      (flank_has g n (marks_below es r n) (rw (below_length n) l) h)

  pub has_below : (g : Finding) → number_of g < 96 → (n u : ℕ) → u < n → Finds g u → Has (marks_below es r n) g
  unfolding marks_below
  has_below g l zero u k f = absurd (omega arith)
  has_below g l (suc n) u k f =
      ⊎_elim (λ i. flank_finds g n (marks_below es r n) (rw (below_length n) l) (subst (Finds g) (sym i) f))
      (λ d. flank_keeps g n (flank_of es r n) (marks_below es r n) (rw (below_length n) l) (has_below g l n u (omega arith) f)) (cases_eq n u)

  -- the table of one flank
  pub alone_has : (g : Finding) → number_of g < 96 → (u : ℕ) → Has (marks_of es r u) g → Finds g u
  alone_has g l u h = ⊎_elim (λ a. absurd (none_marked g l a)) (λ f. f) (flank_has g u no_marks (rw no_marks_length l) h)

  pub has_alone : (g : Finding) → number_of g < 96 → (u : ℕ) → Finds g u → Has (marks_of es r u) g
  has_alone g l u f = flank_finds g u no_marks (rw no_marks_length l) f

-- a list that has an item under a condition
module _ {A : Type 0} where
  pub in_cond : (b : Bool) (x a : A) → In a (cond b (x ∷ []) []) → (b ≡ true) × (x ≡ a)
  in_cond true x a (inl e) = (refl, e)
  in_cond true x a (inr e) = absurd e
  in_cond false x a h = absurd h

  cond_in : (b : Bool) (x : A) → b ≡ true → In x (cond b (x ∷ []) [])
  cond_in b x h = rw h (inl refl)

-- the requests in a table
pub in_at : (e a : ℕ) (p : Position) (m : Mark) → In (request e p) (requests_at a m) → (a ≡ e) × (flag (shield a p) m ≡ true)
in_at e a p m h =
    ⊎_elim (part position.Plus m.plus refl) (part position.Minus m.minus refl)
    (in_either (request e p) (cond m.plus (request a position.Plus ∷ []) []) (cond m.minus (request a position.Minus ∷ []) []) h)
  where
    part : (q : Position) (b : Bool) → flag (shield a q) m ≡ b → In (request e p) (cond b (request a q ∷ []) []) → (a ≡ e) × (flag (shield a p) m ≡ true)
    part q b s i =
        let t = in_cond b (request a q) (request e p) i in
        (ap (λ (x : Request). x.element) t.1, subst (λ (x : Position). flag (shield a x) m ≡ true) (ap (λ (x : Request). x.position) t.1) (s ∙ t.0))

at_in : (e : ℕ) (p : Position) (m : Mark) → flag (shield e p) m ≡ true → In (request e p) (requests_at e m)
at_in e position.Plus m h =
    in_left (request e position.Plus) _ (cond m.minus (request e position.Minus ∷ []) []) (cond_in m.plus (request e position.Plus) h)
at_in e position.Minus m h =
    in_right (request e position.Minus) (cond m.plus (request e position.Plus ∷ []) []) _ (cond_in m.minus (request e position.Minus) h)

pub in_requests : (t : List Mark) (n e : ℕ) (p : Position) → In (request e p) (requests_in t n) → (e < n) × Has t (shield e p)
unfolding requests_in
in_requests t zero e p h = absurd h
in_requests t (suc n) e p h =
    ⊎_elim (λ i. let s = in_requests t n e p i in (omega (arith, s.0), s.1))
    (λ i. let s = in_at e n p (get_or t n unmarked) i in (omega (arith, s.0), subst (λ k. Has t (shield k p)) s.0 s.1))
    (in_either (request e p) (requests_in t n) (requests_at n (get_or t n unmarked)) h)

pub requests_have : (t : List Mark) (n e : ℕ) (p : Position) → e < n → Has t (shield e p) → In (request e p) (requests_in t n)
unfolding requests_in
requests_have t zero e p l h = absurd (omega arith)
requests_have t (suc n) e p l h =
    ⊎_elim (λ i. in_right (request e p) (requests_in t n) _ (rw i (at_in e p (get_or t e unmarked) h)))
    (λ d. in_left (request e p) (requests_in t n) _ (requests_have t n e p (omega arith) h)) (cases_eq n e)

-- the open branches in a table
pub in_branches : (a : ℕ) (t : List Mark) (n u l : ℕ) → In (branch u l) (branches_in a t n) → (a ≡ u) × (l < n) × Has t (open_end l)
unfolding branches_in
in_branches a t zero u l h = absurd h
in_branches a t (suc n) u l h =
    ⊎_elim (λ i. let s = in_branches a t n u l i in (s.0, omega (arith, s.1), s.2))
    (λ i.
    let s = in_cond (get_or t n unmarked).open_end (branch a n) (branch u l) i in
    let k : n ≡ l = ap (λ (x : Branch). x.last) s.1 in
    (ap (λ (x : Branch). x.from) s.1, omega (arith, k), subst (λ j. Has t (open_end j)) k s.0))
    (in_either (branch u l) (branches_in a t n) (branch_at a n (get_or t n unmarked)) h)

branches_have : (t : List Mark) (n u l : ℕ) → l < n → Has t (open_end l) → In (branch u l) (branches_in u t n)
unfolding branches_in
branches_have t zero u l k h = absurd (omega arith)
branches_have t (suc n) u l k h =
    ⊎_elim (λ i. in_right (branch u l) (branches_in u t n) _ (rw i (cond_in (get_or t l unmarked).open_end (branch u l) h)))
    (λ d. in_left (branch u l) (branches_in u t n) _ (branches_have t n u l (omega arith) h)) (cases_eq n l)

module _ (es : List Element) (r : Route) where
  pub in_below : (n u l : ℕ) → In (branch u l) (branches_below es r n) → (u < n) × (l < 96) × Has (marks_of es r u) (open_end l)
  unfolding branches_below
  in_below zero u l h = absurd h
  in_below (suc n) u l h =
      ⊎_elim (λ i. let s = in_below n u l i in (omega (arith, s.0), s.1, s.2))
      (λ i. let s = in_branches n (marks_of es r n) 96 u l i in (omega (arith, s.0), s.1, subst (λ k. Has (marks_of es r k) (open_end l)) s.0 s.2))
      (in_either (branch u l) (branches_below es r n) (branches_in n (marks_of es r n) 96) h)

  pub below_in : (n u l : ℕ) → u < n → l < 96 → Has (marks_of es r u) (open_end l) → In (branch u l) (branches_below es r n)
  unfolding branches_below
  below_in zero u l k m h = absurd (omega arith)
  below_in (suc n) u l k m h =
      ⊎_elim (λ i. in_right (branch u l) (branches_below es r n) _ (rw i (branches_have (marks_of es r u) 96 u l m h)))
      (λ d. in_left (branch u l) (branches_below es r n) _ (below_in n u l (omega arith) m h)) (cases_eq n u)
