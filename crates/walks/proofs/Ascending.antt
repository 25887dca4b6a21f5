-- The requests of a route and its open branches stand in their order.
use Rattle.std.proofs.Common.{◌≡◌, ℕ, zero, suc, ◌<◌, Bool, true, false, cond, List, [], ◌∷◌, ◌++◌, length, get_or, AllPairs, refl, sym, inl, inr, ⊎_elim, arith}
use Rattle.layout.specs.declared.element.Element.{Element}
use Rattle.layout.specs.declared.position.Position.TheVariants as position
use Rattle.layout.specs.declared.route.Route.{Route}
use Rattle.flank.specs.declared.answers.Mark.{Mark}
use Rattle.flank.specs.Search.{unmarked}
use Rattle.flank.specs.Protection.{request, branch, requests_at, requests_in, branch_at, branches_in, marks_of, branches_below, route_marks}
use Rattle.walks.specs.Exactly.{In, RequestBefore, lower_element, plus_first, RequestsAscend, BranchBefore, lower_used, lower_last, BranchesAscend}
use Rattle.walks.proofs.Found.{in_either}
use Rattle.walks.proofs.Tables.{in_cond, in_at, in_requests, in_branches, in_below}

-- each item of a list stands to all later ones in a relation
module _ {A : Type 0} (R : A → A → Type 0) where
  pub data Rising : List A → Type 0 where
    rising_none : Rising []
    rising_more : {x : A} {xs : List A} → ((b : A) → In b xs → R x b) → Rising xs → Rising (x ∷ xs)

  pub rising_append : {xs : List A} (ys : List A) → Rising xs → Rising ys → ((a b : A) → In a xs → In b ys → R a b) → Rising (xs ++ ys)
  rising_append ys rising_none k across = k
  rising_append ys (rising_more {x} {xs} first rest) k across =
      rising_more (λ b i. ⊎_elim (λ l. first b l) (λ m. across x b (inl refl) m) (in_either b xs ys i))
      (rising_append ys rest k (λ a b l m. across a b (inr l) m))

  get_in : (xs : List A) (i : ℕ) (d : A) → i < length xs → In (get_or xs i d) xs
  get_in [] i d h = absurd (omega arith)
  get_in (x ∷ xs) zero d h = inl refl
  get_in (x ∷ xs) (suc i) d h = inr (get_in xs i d (omega arith))

  pub rising_pairs : {xs : List A} → Rising xs → AllPairs R xs
  rising_pairs rising_none i j d lt within = absurd (omega arith)
  rising_pairs (rising_more first rest) i zero d lt within = absurd (omega arith)
  rising_pairs (rising_more {x} {xs} first rest) zero (suc j) d lt within = first (get_or xs j d) (get_in xs j d (omega arith))
  rising_pairs (rising_more first rest) (suc i) (suc j) d lt within = rising_pairs rest i j d (omega arith) (omega arith)

  pub rising_one : (b : Bool) (x : A) → Rising (cond b (x ∷ []) [])
  rising_one true x = rising_more (λ b i. absurd i) rising_none
  rising_one false x = rising_none

requests_at_rise : (e : ℕ) (m : Mark) → Rising RequestBefore (requests_at e m)
requests_at_rise e m =
    rising_append RequestBefore (cond m.minus (request e position.Minus ∷ []) [])
    (rising_one RequestBefore m.plus (request e position.Plus)) (rising_one RequestBefore m.minus (request e position.Minus))
    (λ a b l k.
    let x : request e position.Plus ≡ a = (in_cond m.plus (request e position.Plus) a l).1 in
    let y : request e position.Minus ≡ b = (in_cond m.minus (request e position.Minus) b k).1 in
    rw (sym x, sym y) (plus_first refl refl refl))

requests_rise : (t : List Mark) (n : ℕ) → Rising RequestBefore (requests_in t n)
unfolding requests_in
requests_rise t zero = rising_none
requests_rise t (suc n) =
    rising_append RequestBefore (requests_at n (get_or t n unmarked)) (requests_rise t n) (requests_at_rise n (get_or t n unmarked))
    (λ a b l k.
    let low : a.element < n = (in_requests t n a.element a.position l).0 in
    let here : n ≡ b.element = (in_at b.element n b.position (get_or t n unmarked) k).0 in
    lower_element (omega arith))

pub requests_ascend : RequestsAscend
requests_ascend es r = rising_pairs RequestBefore (requests_rise (route_marks es r) 96)

branches_rise : (u : ℕ) (t : List Mark) (n : ℕ) → Rising BranchBefore (branches_in u t n)
unfolding branches_in
branches_rise u t zero = rising_none
branches_rise u t (suc n) =
    rising_append BranchBefore (branch_at u n (get_or t n unmarked)) (branches_rise u t n) (rising_one BranchBefore (get_or t n unmarked).open_end (branch u n))
    (λ a b l k.
    let before = in_branches u t n a.from a.last l in
    let here : branch u n ≡ b = (in_cond (get_or t n unmarked).open_end (branch u n) b k).1 in
    rw (sym here) (lower_last (sym before.0) before.1))

below_rise : (es : List Element) (r : Route) (n : ℕ) → Rising BranchBefore (branches_below es r n)
unfolding branches_below
below_rise es r zero = rising_none
below_rise es r (suc n) =
    rising_append BranchBefore (branches_in n (marks_of es r n) 96) (below_rise es r n) (branches_rise n (marks_of es r n) 96)
    (λ a b l k.
    let low : a.from < n = (in_below es r n a.from a.last l).0 in
    let here : n ≡ b.from = (in_branches n (marks_of es r n) 96 b.from b.last k).0 in
    lower_used (omega arith))

pub branches_ascend : BranchesAscend
branches_ascend es r = rising_pairs BranchBefore (below_rise es r 96)
