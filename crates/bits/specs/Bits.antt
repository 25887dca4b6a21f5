-- The eight bits of a byte.
use Rattle.std.specs.Prelude.{ℕ, ◌+◌, ◌*◌, ◌/◌, ◌%◌, ◌^◌, Bool, false, cond, ◌==◌, nat_lt}

-- Whether bit k is 1; a byte has no bits from 8 on.
unfoldable pub bit : ℕ → ℕ → Bool
bit b k = cond (nat_lt k 8) (b / 2 ^ k % 2 == 1) false

-- The byte with bit k made 1 or 0: the bits above it and the bits below it stay.
unfoldable pub with_bit : ℕ → ℕ → Bool → ℕ
with_bit b k v = cond (nat_lt k 8) (b / (2 * 2 ^ k) * (2 * 2 ^ k) + cond v (2 ^ k) 0 + b % 2 ^ k) b
