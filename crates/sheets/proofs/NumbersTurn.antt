-- The start and a turn of the loop that lists the numbers that pass a test.
use Rattle.std.proofs.Common.{◌≡◌, ℕ, ◌+◌, Bool, refl, add-one}
use Rattle.bounded.specs.Lists.{empty_of}
use Rattle.sheets.specs.Lists.{pushed_if, numbers_where}

pub numbers_none : {N : ℕ} (test : ℕ → Bool) → numbers_where {N = N} test 0 ≡ empty_of 0
unfolding numbers_where
numbers_none test = refl

pub numbers_more : {N : ℕ} (test : ℕ → Bool) (n : ℕ) → numbers_where {N = N} test (n + 1) ≡ pushed_if (test n) (numbers_where test n) n
unfolding numbers_where
numbers_more test n = rw add-one
