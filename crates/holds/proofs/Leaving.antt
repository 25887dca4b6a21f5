-- A route that leaves the holds of all elements, one after another, is taken out of each.
use Rattle.std.proofs.Common.{◌≡◌, ℕ, zero, suc, ◌+◌, List, [], ◌∷◌, get_or, set, refl, sym, ap, add-one}
use Rattle.holds.specs.declared.hold.Hold.{Hold}
use Rattle.holds.specs.declared.interlocking.Interlocking.{Interlocking}
use Rattle.holds.specs.Granting.{taken_out}
use Rattle.holds.specs.Holds.{free_hold, left_by}

-- a change of one item of a list, past its end too, does not depend on what is read past the end
change_at : {X : Type 0} (change : X → X) (xs : List X) (n : ℕ) (d e : X) → set xs n (change (get_or xs n d)) ≡ set xs n (change (get_or xs n e))
change_at change [] n d e = refl
change_at change (x ∷ xs) zero d e = refl
change_at change (x ∷ xs) (suc n) d e = ap (λ (l : List _). x ∷ l) (change_at change xs n d e)

module _ (i : Interlocking) (r : ℕ) where
  taken_out_states : (n : ℕ) → (taken_out i r n).states ≡ i.states
  unfolding taken_out
  taken_out_states zero = refl
  taken_out_states (suc n) = taken_out_states n

  pub left_none : (taken_out i r 0).holds ≡ i.holds
  unfolding taken_out
  left_none = refl

  pub left_more : (n : ℕ) (holds : List Hold) (d : Hold) → holds ≡ (taken_out i r n).holds
      → set holds n (left_by (get_or holds n d) r) ≡ (taken_out i r (n + 1)).holds
  unfolding taken_out
  left_more n holds d e = rw (add-one, ← e) (change_at (λ (h : Hold). left_by h r) holds n d free_hold)

  pub left_all : (n : ℕ) (holds : List Hold) → holds ≡ (taken_out i r n).holds → n ≡ 96
      → record { holds = holds; states = i.states } ≡ taken_out i r 96
  left_all n holds e all = rw (← all, e) (ap (λ s. record { holds = (taken_out i r n).holds; states = s }) (sym (taken_out_states n)))
