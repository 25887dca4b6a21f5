-- Answers written into the first places of a list, one table place after another.
use Rattle.std.proofs.Common.{◌≡◌, ℕ, zero, suc, ◌+◌, ◌*◌, ◌<◌, ◌≤◌, Bool, cond, List, [], ◌∷◌, ◌++◌, length, map, get_or, set, sym, refl, ap, ◌∙◌, append_assoc, append-nil, add-zero, add-one, arith, length-append, drop-cons}
use lib.ListN.{length-map}
use Rattle.std.proofs.Math.Seq.{set-append_seam}
use Rattle.layout.specs.declared.element.Element.{Element}
use Rattle.layout.specs.declared.position.Position.TheVariants as position
use Rattle.layout.specs.declared.route.Route.{Route}
use Rattle.flank.specs.declared.answers.Mark.{Mark}
use Rattle.flank.specs.declared.answers.Request.{Request}
use Rattle.flank.specs.declared.answers.Branch.{Branch}
use Rattle.flank.specs.Search.{unmarked}
use Rattle.flank.specs.Protection.{request, branch, requests_at, requests_in, branch_at, branches_in, marks_of, branches_below, filled, put_at}

module _ {A : Type 0} where
  pub put_append : (xs ys list : List A) (n : ℕ) → put_at (xs ++ ys) n list ≡ put_at ys (n + length xs) (put_at xs n list)
  put_append [] ys list n = rw (add-zero n)
  put_append (x ∷ xs) ys list n =
      let k : n + suc (length xs) ≡ n + 1 + length xs = omega arith in
      rw k (put_append xs ys (set list n x) (n + 1))

  put_one : (pre list : List A) (r : A) → length pre < length list → set (filled pre list) (length pre) r ≡ filled (pre ++ r ∷ []) list
  put_one pre list r h = rw (drop-cons list (length pre) r h, set-append_seam) (simp (append_assoc, length-append, add-one))

  put_after : (xs pre list : List A) → length pre + length xs ≤ length list → put_at xs (length pre) (filled pre list) ≡ filled (pre ++ xs) list
  put_after [] pre list h = rw (append-nil pre)
  put_after (x ∷ xs) pre list h =
      let one : length (pre ++ x ∷ []) ≡ length pre + 1 = length-append pre (x ∷ []) in
      let here : set (filled pre list) (length pre) x ≡ filled (pre ++ x ∷ []) list = put_one pre list x (omega arith) in
      ap (put_at xs (length pre + 1)) here
      ∙ (ap (λ n. put_at xs n (filled (pre ++ x ∷ []) list)) (sym one)
      ∙ (put_after xs (pre ++ x ∷ []) list (omega arith) ∙ ap (λ (t : List A). filled t list) (append_assoc pre (x ∷ []) xs)))

  -- a list with room has the answers in its first places, and is else as it was
  pub put_filled : (xs list : List A) → length xs ≤ length list → put_at xs 0 list ≡ filled xs list
  put_filled xs list h = put_after xs [] list (omega arith)

pub put_made : {A B : Type 0} (answer_to : A → B) (xs : List A) (list : List B) → length xs ≤ length list → put_at (map answer_to xs) 0 list ≡ filled (map answer_to xs) list
put_made answer_to xs list h = put_filled (map answer_to xs) list (omega (arith, length-map xs answer_to))

pub requests_none : (t : List Mark) → requests_in t 0 ≡ []
unfolding requests_in
requests_none t = refl

pub requests_more : (t : List Mark) (k : ℕ) → requests_in t (k + 1) ≡ requests_in t k ++ requests_at k (get_or t k unmarked)
unfolding requests_in
requests_more t k = rw add-one

at_most_two : (a b : Bool) (q r : Request) → length (cond a (q ∷ []) [] ++ cond b (r ∷ []) []) ≤ 2
at_most_two a b q r = grind (arith, length-append {A = Request})

pub requests_few : (t : List Mark) (k : ℕ) → length (requests_in t k) ≤ 2 * k
requests_few t zero = rw (requests_none t) (omega arith)
requests_few t (suc k) = rw (← (add-one k), requests_more t k, length-append) (omega (arith, at_most_two (get_or t k unmarked).plus (get_or t k unmarked).minus (request k position.Plus) (request k position.Minus), requests_few t k))

pub branches_none : (u : ℕ) (t : List Mark) → branches_in u t 0 ≡ []
unfolding branches_in
branches_none u t = refl

pub branches_more : (u : ℕ) (t : List Mark) (k : ℕ) → branches_in u t (k + 1) ≡ branches_in u t k ++ branch_at u k (get_or t k unmarked)
unfolding branches_in
branches_more u t k = rw add-one

at_most_one : (b : Bool) (q : Branch) → length (cond b (q ∷ []) []) ≤ 1
at_most_one b q = grind arith

pub branches_few : (u : ℕ) (t : List Mark) (k : ℕ) → length (branches_in u t k) ≤ k
branches_few u t zero = rw (branches_none u t) (omega arith)
branches_few u t (suc k) = rw (← (add-one k), branches_more u t k, length-append) (omega (arith, at_most_one (get_or t k unmarked).open_end (branch u k), branches_few u t k))

pub below_none : (es : List Element) (r : Route) → branches_below es r 0 ≡ []
unfolding branches_below
below_none es r = refl

pub below_more : (es : List Element) (r : Route) (k : ℕ) → branches_below es r (k + 1) ≡ branches_below es r k ++ branches_in k (marks_of es r k) 96
unfolding branches_below
below_more es r k = rw add-one

pub below_few : (es : List Element) (r : Route) (k : ℕ) → length (branches_below es r k) ≤ 96 * k
below_few es r zero = rw (below_none es r) (omega arith)
below_few es r (suc k) = rw (← (add-one k), below_more es r k, length-append) (omega (arith, branches_few k (marks_of es r k) 96, below_few es r k))
