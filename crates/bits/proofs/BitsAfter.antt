-- Masks make the byte that is meant, and each bit of it is known: tried at every bit of every byte.
use Rattle.std.proofs.Common.{◌≡◌, ℕ, ◌-◌, ◌*◌, ◌%◌, ◌^◌, ◌<◌, ◌≤◌, Bool, true, false, cond, eqb, ltb, refl, inl, inr, arith}
use lib.Bits.{bit_and, bit_or}
use Rattle.std.proofs.lemmas.Bool.{agree_below, agree_below_at, eqb-true, ltb-true, le-ltb, ne_eqb, cases_lt}
use Rattle.bits.specs.Bits.{bit, with_bit}

abbrev passes : ℕ → Bool
passes n = true

-- a test that every bit of every byte passes
each_bit : (test : ℕ → ℕ → Bool) → agree_below (λ i. agree_below (test i) passes 256) passes 8 ≡ true → (k b : ℕ) → k < 8 → b < 256 → test k b ≡ true
each_bit test t k b low fits = agree_below_at (test k) passes 256 b (agree_below_at (λ i. agree_below (test i) passes 256) passes 8 k t low) fits

pub mask_on : (k b : ℕ) → k < 8 → b < 256 → bit_or b (1 * 2 ^ k % 256) ≡ with_bit b k true
unfolding with_bit
mask_on k b low fits = eqb-true _ _ (each_bit (λ i c. eqb (bit_or c (1 * 2 ^ i % 256)) (with_bit c i true)) refl k b low fits)

pub mask_off : (k b : ℕ) → k < 8 → b < 256 → bit_and b (255 - 1 * 2 ^ k % 256) ≡ with_bit b k false
unfolding with_bit
mask_off k b low fits = eqb-true _ _ (each_bit (λ i c. eqb (bit_and c (255 - 1 * 2 ^ i % 256)) (with_bit c i false)) refl k b low fits)

pub past_bits : (b k : ℕ) (v : Bool) → 8 ≤ k → with_bit b k v ≡ b
unfolding with_bit
past_bits b k v high = rw (le-ltb k 8 high)

-- all bits of the byte that is written
abbrev written : Bool → ℕ → ℕ → Bool
written v k b = agree_below (bit (with_bit b k v)) (λ j. cond (eqb j k) v (bit b j)) 8

all_written : (v : Bool) (k b : ℕ) → k < 8 → b < 256 → written v k b ≡ true
unfolding bit with_bit
all_written true k b low fits = each_bit (written true) refl k b low fits
all_written false k b low fits = each_bit (written false) refl k b low fits

pub bit_after : (b k j : ℕ) (v : Bool) → b < 256 → j < 8 → bit (with_bit b k v) j ≡ cond (eqb j k) v (bit b j)
bit_after b k j v fits below = elim (cases_lt k 8) [
  | inl low ↦ agree_below_at (bit (with_bit b k v)) (λ j. cond (eqb j k) v (bit b j)) 8 j (all_written v k b low fits) below
  | inr high ↦ rw (past_bits b k v high, ne_eqb j k (λ e. omega arith))
]

below_after : (v : Bool) (k b : ℕ) → k < 8 → b < 256 → ltb (with_bit b k v) 256 ≡ true
unfolding with_bit
below_after true k b low fits = each_bit (λ i c. ltb (with_bit c i true) 256) refl k b low fits
below_after false k b low fits = each_bit (λ i c. ltb (with_bit c i false) 256) refl k b low fits

-- a byte stays a byte
pub with_bit_fits : (b k : ℕ) (v : Bool) → b < 256 → with_bit b k v < 256
with_bit_fits b k v fits = elim (cases_lt k 8) [
  | inl low ↦ ltb-true _ _ (below_after v k b low fits)
  | inr high ↦ rw (past_bits b k v high) fits
]
