-- A test of the numbers in a row that reads a list at each number is a test of the items of the list.
use Rattle.std.proofs.Common.{◌≡◌, ℕ, zero, suc, ◌+◌, ◌<◌, ◌≤◌, Bool, ◌&&◌, List, [], ◌∷◌, length, take, drop, get_or, refl, ap, subst, ◌∙◌, arith}
use Rattle.std.proofs.lemmas.List.{drop_more}
use Rattle.std.proofs.Math.Seq.{take-length}
use Rattle.std.specs.List.{list_all, enumerate_from}
use Rattle.layout.specs.Every.{every}

-- the numbers from i on read n items
pub every_items : {X : Type 0} (test : X → Bool) (xs : List X) (d : X) (n i : ℕ) → i + n ≤ length xs
    → every (λ k. test (get_or xs k d)) n i ≡ list_all test (take n (drop i xs))
every_items test xs d zero i h = refl
every_items test xs d (suc n) i h =
    let more : drop i xs ≡ get_or xs i d ∷ drop (i + 1) xs = drop_more xs i d (omega arith) in
    rw more (ap (λ b. test (get_or xs i d) && b) (every_items test xs d n (i + 1) (omega arith)))

-- the numbers of all items
pub every_item : {X : Type 0} (test : X → Bool) (xs : List X) (d : X) → every (λ k. test (get_or xs k d)) (length xs) 0 ≡ list_all test xs
every_item test xs d = every_items test xs d (length xs) 0 (omega arith) ∙ ap (list_all test) (take-length xs)

-- the items with their numbers, where the test of numbers says the same as the test of both
module _ {X : Type 0} (test : ℕ × X → Bool) (passes : ℕ → Bool) where
  all_from : (xs : List X) (d : X) (i : ℕ) → ((k : ℕ) → k < length xs → test (i + k, get_or xs k d) ≡ passes (i + k))
      → list_all test (enumerate_from i xs) ≡ every passes (length xs) i
  all_from [] d i each = refl
  all_from (x ∷ xs) d i each =
      let here : test (i, x) ≡ passes i = subst (λ (n : ℕ). test (n, x) ≡ passes n) (omega arith) (each 0 (omega arith)) in
      let later : list_all test (enumerate_from (i + 1) xs) ≡ every passes (length xs) (i + 1) =
      all_from xs d (i + 1) (λ k h. subst (λ (n : ℕ). test (n, get_or xs k d) ≡ passes n) (omega arith) (each (suc k) (omega arith))) in
      rw (here, later)

  pub all_places : (xs : List X) (d : X) → ((k : ℕ) → k < length xs → test (k, get_or xs k d) ≡ passes k)
      → list_all test (enumerate_from 0 xs) ≡ every passes (length xs) 0
  all_places xs d each = all_from xs d 0 (λ k h. subst (λ (n : ℕ). test (n, get_or xs k d) ≡ passes n) (omega arith) (each k h))
