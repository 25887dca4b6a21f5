-- A turn of a loop that takes a step n times.
use Rattle.std.proofs.Common.{◌≡◌, ℕ, suc, ◌+◌, ◌-◌, ◌<◌, arith}
use Rattle.planbytes.specs.Bytes.{Bytes, Reading, and_then, times}

pub times_more : {S : Type 0} (n i : ℕ) (f : S → Bytes → Reading S) (s : S) (bs : Bytes) → i < n
    → times (n - i) f s bs ≡ and_then (f s bs) (times (n - (i + 1)) f)
times_more n i f s bs h = let e : n - i ≡ suc (n - (i + 1)) = omega arith in rw e
