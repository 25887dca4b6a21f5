-- Passes over the first routes, repeated until nothing would move, come to rest; what one step keeps, they keep.
use Rattle.std.proofs.Common.{◌≡◌, ℕ, zero, suc, ◌+◌, ◌<◌, ◌≤◌, Bool, true, false, cond, ◌⊎◌, List, [], ◌∷◌, set, sym, refl, ap, ◌∙◌, subst, inl, inr, ⊎_elim, arith}
use Rattle.std.proofs.lemmas.List.{set-get_or}
use Rattle.std.proofs.lemmas.Bool.{cases_eq, cases_Bool, cond_both}
use Rattle.layout.specs.Every.{every}
use Rattle.layout.proofs.EveryTurn.{every_each, every_not}
use Rattle.holds.specs.declared.state.RouteState.{RouteState}
use Rattle.holds.specs.declared.state.RouteState.TheVariants.{Absent}
use Rattle.runlaws.specs.Settled.{Readiness, at}

-- what becomes of a state, ready or not
abbrev pub Move : Type 0
Move = RouteState → Bool → RouteState

abbrev pub stepped : Move → Readiness → List RouteState → ℕ → List RouteState
stepped f R ss k = set ss k (f (at ss k) (R ss k))

-- a pass over the first n routes, in their order
unfoldable pub passed : Move → Readiness → List RouteState → ℕ → List RouteState
passed f R ss zero = ss
passed f R ss (suc n) = stepped f R (passed f R ss n) n

-- a test of a state, ready or not: that it stays
abbrev pub Test : Type 0
Test = RouteState → Bool → Bool

abbrev pub all_stay : Test → Readiness → ℕ → List RouteState → Bool
all_stay stays R count ss = every (λ k. stays (at ss k) (R ss k)) count 0

-- passes over the first routes until all of them stay, n at the most
unfoldable pub until : Test → Move → Readiness → ℕ → List RouteState → ℕ → List RouteState
until stays f R count ss zero = ss
until stays f R count ss (suc n) =
    cond (all_stay stays R count ss) ss (until stays f R count (passed f R ss count) n)

-- the weight of the first n states
total : (RouteState → ℕ) → List RouteState → ℕ → ℕ
total w ss zero = 0
total w [] (suc n) = 0
total w (x ∷ xs) (suc n) = w x + total w xs n

total_small : (w : RouteState → ℕ) → ((s : RouteState) → w s ≤ 1) → (ss : List RouteState) (n : ℕ) → total w ss n ≤ n
unfolding total
total_small w small ss zero = omega arith
total_small w small [] (suc n) = omega arith
total_small w small (x ∷ xs) (suc n) = omega (arith, small x, total_small w small xs n)

total_set :
    (w : RouteState → ℕ) → w Absent ≡ 0 → (ss : List RouteState) (k n : ℕ) (y : RouteState)
    → k < n → w y < w (at ss k) → total w (set ss k y) n < total w ss n
unfolding total
total_set w none ss k zero y below lt = absurd (omega arith)
total_set w none [] k (suc n) y below lt = absurd (omega arith)
total_set w none (x ∷ xs) zero (suc n) y below lt = omega arith
total_set w none (x ∷ xs) (suc k) (suc n) y below lt = omega (arith, total_set w none xs k n y (omega arith) lt)

module _ (stays : Test) (f : Move) (w : RouteState → ℕ) (small : (s : RouteState) → w s ≤ 1) (none : w Absent ≡ 0)
    (way : (s : RouteState) (b : Bool) → (f s b ≡ s) ⊎ (w (f s b) < w s))
    (moves : (s : RouteState) (b : Bool) → stays s b ≡ false → w (f s b) < w s) (R : Readiness) (count : ℕ) where
  -- no route below n would move
  abbrev Still : List RouteState → ℕ → Type 0
  Still ss n = (k : ℕ) → k < n → f (at ss k) (R ss k) ≡ at ss k

  pass_way :
      (ss : List RouteState) (n : ℕ) → n ≤ count
      → ((passed f R ss n ≡ ss) × Still ss n) ⊎ (total w (passed f R ss n) count < total w ss count)
  unfolding passed
  pass_way ss zero few = inl (refl, λ k h. absurd (omega arith))
  pass_way ss (suc n) few =
      let t = passed f R ss n in
      ⊎_elim
      (λ (h : (t ≡ ss) × Still ss n).
      subst (λ (u : List RouteState). ((stepped f R u n ≡ ss) × Still ss (suc n)) ⊎ (total w (stepped f R u n) count < total w ss count)) (sym h.0)
      (⊎_elim
      (λ (e : f (at ss n) (R ss n) ≡ at ss n).
      inl (
        ap (set ss n) e ∙ set-get_or ss n Absent,
        λ k l. ⊎_elim (λ (i : k ≡ n). subst (λ j. f (at ss j) (R ss j) ≡ at ss j) (sym i) e) (λ ne. h.1 k (omega arith)) (cases_eq k n),
      ))
      (λ lt. inr (total_set w none ss n count _ (omega arith) lt))
      (way (at ss n) (R ss n))))
      (λ (less : total w t count < total w ss count).
      ⊎_elim
      (λ (e : f (at t n) (R t n) ≡ at t n).
      inr (subst (λ u. total w u count < total w ss count) (sym (ap (set t n) e ∙ set-get_or t n Absent)) less))
      (λ lt. inr (let l = total_set w none t n count _ (omega arith) lt in omega arith))
      (way (at t n) (R t n)))
      (pass_way ss n (omega arith))

  -- a pass where some route would move lowers the weight
  pass_less : (ss : List RouteState) → all_stay stays R count ss ≡ false → total w (passed f R ss count) count < total w ss count
  pass_less ss e =
      let one = every_not (λ k. stays (at ss k) (R ss k)) count 0 e in
      let below : one.0 < count = omega (arith, one.2) in
      ⊎_elim
      (λ (h : (passed f R ss count ≡ ss) × Still ss count).
      let lt = moves (at ss one.0) (R ss one.0) one.3 in
      let same = ap w (h.1 one.0 below) in
      absurd (omega arith))
      (λ (lt : total w (passed f R ss count) count < total w ss count). lt)
      (pass_way ss count (omega arith))

  rest_within : (ss : List RouteState) (n : ℕ) → total w ss count ≤ n → all_stay stays R count (until stays f R count ss n) ≡ true
  unfolding until
  rest_within ss zero light =
      ⊎_elim
      (λ (e : all_stay stays R count ss ≡ true). e)
      (λ (e : all_stay stays R count ss ≡ false). let lt = pass_less ss e in absurd (omega arith))
      (cases_Bool (all_stay stays R count ss))
  rest_within ss (suc n) light =
      cond_both (all_stay stays R count ss) ss (until stays f R count (passed f R ss count) n) (λ (u : List RouteState). all_stay stays R count u ≡ true)
      (λ e. e)
      (λ e. rest_within (passed f R ss count) n (let lt = pass_less ss e in omega arith))

  -- as many passes as there are routes are enough
  pub at_rest : (ss : List RouteState) (k : ℕ) → k < count → stays (at (until stays f R count ss count) k) (R (until stays f R count ss count) k) ≡ true
  at_rest ss k below =
      let end = until stays f R count ss count in
      every_each (λ k. stays (at end k) (R end k)) count 0 (rest_within ss count (total_small w small ss count)) k (omega arith) (omega arith)

module _ (f : Move) (R : Readiness) (P : List RouteState → Type 0) (count : ℕ)
    (keeps : (ss : List RouteState) (k : ℕ) → k < count → P ss → P (stepped f R ss k)) where
  passed_keeps : (ss : List RouteState) (n : ℕ) → n ≤ count → P ss → P (passed f R ss n)
  unfolding passed
  passed_keeps ss zero few p = p
  passed_keeps ss (suc n) few p = keeps (passed f R ss n) n (omega arith) (passed_keeps ss n (omega arith) p)

  -- what a step keeps, passes keep
  pub until_keeps : (stays : Test) (ss : List RouteState) (n : ℕ) → P ss → P (until stays f R count ss n)
  unfolding until
  until_keeps stays ss zero p = p
  until_keeps stays ss (suc n) p =
      cond_both (all_stay stays R count ss) ss (until stays f R count (passed f R ss count) n) P
      (λ e. p)
      (λ e. until_keeps stays (passed f R ss count) n (passed_keeps ss count (omega arith) p))
