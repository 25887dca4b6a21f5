-- A table that the calls of a closure fill is the table of a rule's values, where each call answers as the rule does.
use Rattle.std.proofs.Common.{◌≡◌, ℕ, zero, suc, ◌+◌, ◌<◌, ◌≤◌, List, map, get_or, ◌∙◌, subst, inl, inr, arith}
use Rattle.std.specs.Array.{IsFromFnResult, IsFromFnResultFrom}
use Rattle.std.specs.Fn.{Mut, Called}
use Rattle.std.specs.List.{range_with_len}
use Rattle.std.proofs.lemmas.Bool.{cases_eq}
use Rattle.std.proofs.lemmas.List.FromFn.{fill_by_all}

module _ {F X : Type 0} (g : Mut F (ℕ × Unit {0}) X) (f : F) (rule : ℕ → X) (size : ℕ) where
  -- each call answers as the rule does, and leaves the closure as it is
  abbrev pub Follows : Type 0
  Follows = (k : ℕ) (x : X) (q : F) → k < size → Called g f (k, tt) x q → (x ≡ rule k) × (q ≡ f)

  filled_at : Follows → (xs : List X) (blank : X) (n i : ℕ) → IsFromFnResultFrom g f xs i n → i + n ≤ size → (k : ℕ) → i ≤ k → k < i + n → get_or xs k blank ≡ rule k
  filled_at follows xs blank zero i filled short k from upto = absurd (omega arith)
  filled_at follows xs blank (suc n) i (q, x, here, call, rest) short k from upto =
      let (answer, kept) = follows i x q (omega arith) call in
      elim (cases_eq k i) [
        | inl e ↦ rw e (here.1 blank ∙ answer)
        | inr e ↦ filled_at follows xs blank n (i + 1) (subst (λ p. IsFromFnResultFrom g p xs (i + 1) n) kept rest) (omega arith) k (omega arith) (omega arith)
      ]

  pub filled : (blank : X) (xs : List X) → IsFromFnResult g f xs size → Follows → xs ≡ map rule (range_with_len 0 size)
  filled blank xs made follows =
      fill_by_all rule xs size blank made.long (λ k h. filled_at follows xs blank size 0 made.each (omega arith) k (omega arith) (omega arith))
