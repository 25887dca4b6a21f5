-- What a test of all numbers of a list says of each, and what a place of a list has after a write.
use Rattle.std.proofs.Common.{◌≡◌, ℕ, ◌<◌, Bool, true, false, ◌⊎◌, List, [], ◌∷◌, length, get_or, set, sym, refl, ap, ◌∙◌, inl, inr, ⊎_elim}
use Rattle.std.proofs.lemmas.List.{get_or-set_same, get_or-set_other, set_past}
use Rattle.std.proofs.lemmas.Bool.{cases_eq, cases_lt, and_parts, and_from, and_cases}
use Rattle.walks.specs.Exactly.{In}
use Rattle.std.specs.List.{list_all}

pub list_all_each : (test : ℕ → Bool) (xs : List ℕ) → list_all test xs ≡ true → (x : ℕ) → In x xs → test x ≡ true
list_all_each test [] e x h = absurd h
list_all_each test (y ∷ ys) e x h =
    let both = and_parts (test y) (list_all test ys) e in
    ⊎_elim (λ (i : y ≡ x). sym (ap test i) ∙ both.0) (λ (rest : In x ys). list_all_each test ys both.1 x rest) h

pub list_all_from : (test : ℕ → Bool) (xs : List ℕ) → ((x : ℕ) → In x xs → test x ≡ true) → list_all test xs ≡ true
list_all_from test [] h = refl
list_all_from test (y ∷ ys) h =
    and_from (test y) (list_all test ys) (h y (inl refl)) (list_all_from test ys (λ x rest. h x (inr rest)))

-- some number of the list does not pass
pub list_all_not : (test : ℕ → Bool) (xs : List ℕ) → list_all test xs ≡ false → (x : ℕ) × In x xs × (test x ≡ false)
list_all_not test [] e = cc
list_all_not test (y ∷ ys) e =
    ⊎_elim
    (λ (here : test y ≡ false). (y, inl refl, here))
    (λ (later : list_all test ys ≡ false). let some = list_all_not test ys later in (some.0, inr some.1, some.2))
    (and_cases (test y) (list_all test ys) e)

-- after a write, a place has what it had or what was written
pub set_case :
    {A : Type 0} (xs : List A) (k : ℕ) (y d : A) (j : ℕ)
    → (get_or (set xs k y) j d ≡ get_or xs j d) ⊎ ((j ≡ k) × (get_or (set xs k y) j d ≡ y))
set_case xs k y d j =
    ⊎_elim
    (λ (i : j ≡ k).
    ⊎_elim
    (λ (within : k < length xs). inr (i, ap (λ x. get_or (set xs k y) x d) i ∙ get_or-set_same xs k y d within))
    (λ past. inl (ap (λ l. get_or l j d) (set_past xs k y past)))
    (cases_lt k (length xs)))
    (λ ne. inl (get_or-set_other xs k j y d ne))
    (cases_eq j k)
