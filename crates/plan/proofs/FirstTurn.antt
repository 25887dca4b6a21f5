-- The first fault among numbers in a row: the start, a turn and the end of a loop over them, and when there is none.
use Rattle.std.proofs.Common.{◌≡◌, ℕ, zero, suc, ◌+◌, ◌-◌, ◌<◌, ◌≤◌, Some, None, Option, refl, ap, ◌∙◌, inl, inr, arith}
use Rattle.std.proofs.lemmas.Bool.{cases_eq}
use Rattle.faults.specs.declared.fault.Fault.{Fault}
use Rattle.std.specs.Option.{option_or}
use Rattle.plan.specs.Checks.{first_fault}

pub first_none : (f : ℕ → Option Fault) (n i : ℕ) → first_fault f n i ≡ first_fault f (n - 0) i
first_none f n i = let e : n - 0 ≡ n = omega arith in rw e

pub first_more : (f : ℕ → Option Fault) (n i : ℕ) → i < n → first_fault f (n - i) i ≡ option_or (f i) (first_fault f (n - (i + 1)) (i + 1))
first_more f n i h = let e : n - i ≡ suc (n - (i + 1)) = omega arith in rw e

pub first_all : (f : ℕ → Option Fault) (n i : ℕ) → n ≤ i → first_fault f (n - i) i ≡ None
first_all f n i h = let e : n - i ≡ 0 = omega arith in rw e

-- the first of two faults is none exactly if both are none
pub neither : (a b : Option Fault) → option_or a b ≡ None → (a ≡ None) × (b ≡ None)
neither None b e = (refl, e)
neither (Some f) b e = cc

pub neither_from : (a b : Option Fault) → a ≡ None → b ≡ None → option_or a b ≡ None
neither_from a b x y = rw (x, y)

-- there is no first fault exactly if no number has one
pub first_clear : (f : ℕ → Option Fault) (n i : ℕ) → first_fault f n i ≡ None → (j : ℕ) → i ≤ j → j < i + n → f j ≡ None
first_clear f zero i e j l m = absurd (omega arith)
first_clear f (suc n) i e j l m =
    let both : (f i ≡ None) × (first_fault f n (i + 1) ≡ None) = neither (f i) (first_fault f n (i + 1)) e in
    elim (cases_eq j i) [ inl s ↦ ap f s ∙ both.0 | inr s ↦ first_clear f n (i + 1) both.1 j (omega arith) (omega arith) ]

pub first_from : (f : ℕ → Option Fault) (n i : ℕ) → ((j : ℕ) → i ≤ j → j < i + n → f j ≡ None) → first_fault f n i ≡ None
first_from f zero i h = refl
first_from f (suc n) i h = neither_from (f i) (first_fault f n (i + 1)) (h i (omega arith) (omega arith)) (first_from f n (i + 1) (λ j l m. h j (omega arith) (omega arith)))
