-- What a test of numbers in a row says of each number.
use Rattle.std.proofs.Common.{◌≡◌, ℕ, zero, suc, ◌+◌, ◌<◌, ◌≤◌, Bool, true, false, refl, ap, ◌∙◌, inl, inr, arith}
use Rattle.std.proofs.lemmas.Bool.{and_parts, and_from, and_cases, cases_eq}
use Rattle.layout.specs.Every.{every}

-- every number passes
pub every_each : (test : ℕ → Bool) (n i : ℕ) → every test n i ≡ true → (j : ℕ) → i ≤ j → j < i + n → test j ≡ true
every_each test zero i e j l m = absurd (omega arith)
every_each test (suc n) i e j l m =
    let both : (test i ≡ true) × (every test n (i + 1) ≡ true) = and_parts (test i) (every test n (i + 1)) e in
    elim (cases_eq j i) [ inl s ↦ ap test s ∙ both.0 | inr s ↦ every_each test n (i + 1) both.1 j (omega arith) (omega arith) ]

pub every_from : (test : ℕ → Bool) (n i : ℕ) → ((j : ℕ) → i ≤ j → j < i + n → test j ≡ true) → every test n i ≡ true
every_from test zero i h = refl
every_from test (suc n) i h =
    and_from (test i) (every test n (i + 1)) (h i (omega arith) (omega arith))
    (every_from test n (i + 1) (λ j l m. h j (omega arith) (omega arith)))

-- some number does not pass
pub every_not : (test : ℕ → Bool) (n i : ℕ) → every test n i ≡ false → (j : ℕ) × (i ≤ j) × (j < i + n) × (test j ≡ false)
every_not test zero i e = cc
every_not test (suc n) i e =
    elim (and_cases (test i) (every test n (i + 1)) e) [
      | inl here ↦ (i, omega arith, omega arith, here)
      | inr later ↦
          let r : (j : ℕ) × (i + 1 ≤ j) × (j < i + 1 + n) × (test j ≡ false) = every_not test n (i + 1) later in
          (r.0, omega (arith, r.1), omega (arith, r.2), r.3)
    ]
