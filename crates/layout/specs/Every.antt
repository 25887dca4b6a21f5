-- A test of numbers in a row.
use Rattle.std.specs.Prelude.{ℕ, Bool}
use Rattle.std.specs.List.{list_all, range_with_len}

-- Whether the n numbers from i on all pass a test.
abbrev pub every : (ℕ → Bool) → ℕ → ℕ → Bool
every test n i = list_all test (range_with_len i n)
