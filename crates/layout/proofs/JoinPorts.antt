-- Ports below three, and a joined port is one of them.
use Rattle.std.proofs.Common.{◌≡◌, ℕ, zero, suc, ◌<◌, false, ltb, ◌⊎◌, List, Some, refl, inl, inr, arith}
use Rattle.std.proofs.lemmas.Bool.{le-ltb, cases_lt}
use Rattle.std.proofs.lemmas.Option.{none-some}
use Rattle.layout.specs.declared.element.Element.{Element}
use Rattle.layout.specs.declared.element.Join.{Join}
use Rattle.layout.specs.Ports.{joined}

pub low_cases : (n : ℕ) → n < 3 → (n ≡ 0) ⊎ ((n ≡ 1) ⊎ (n ≡ 2))
low_cases zero h = inl refl
low_cases (suc zero) h = inr (inl refl)
low_cases (suc (suc zero)) h = inr (inr refl)
low_cases (suc (suc (suc n))) h = absurd (omega arith)

-- a port that is joined is below three
pub joined_low : (es : List Element) (e p : ℕ) (j : Join) → joined es e p ≡ Some j → p < 3
joined_low es e p j h = elim (cases_lt p 3) [
  | inl l ↦ l
  | inr g ↦ let t : ltb p 3 ≡ false = le-ltb p 3 g in absurd (none-some j (rw t at h))
]
