-- The pigeonhole principle over the numbers: as many different numbers as lie below n are at most n.
use Rattle.std.proofs.Common.{◌≡◌, ℕ, zero, suc, ◌-◌, ◌<◌, ◌≤◌, cond, eqb, arith}
use Rattle.std.proofs.lemmas.Bool.Decides.{nat_tests}

-- with v taken out, the numbers below n fit below n - 1
abbrev moved : ℕ → ℕ → ℕ → ℕ
moved n v x = cond (eqb x (n - 1)) v x

moved_below : (n v x : ℕ) → v < n → x < n → (x ≡ v → ⊥) → moved n v x < n - 1
moved_below n v x a b apart = grind (arith, nat_tests)

moved_apart : (n v x y : ℕ) → (x ≡ v → ⊥) → (y ≡ v → ⊥) → (x ≡ y → ⊥) → moved n v x ≡ moved n v y → ⊥
moved_apart n v x y a b apart e = grind (arith, nat_tests)

pub pigeon : (m n : ℕ) (f : ℕ → ℕ) → ((i : ℕ) → i < m → f i < n) → ((i j : ℕ) → i < j → j < m → f i ≡ f j → ⊥) → m ≤ n
pigeon zero n f below apart = omega arith
pigeon (suc m) n f below apart =
    let last : f m < n = below m (omega arith) in
    let rest : m ≤ n - 1 =
    pigeon m (n - 1) (λ i. moved n (f m) (f i))
    (λ i h. moved_below n (f m) (f i) last (below i (omega arith)) (apart i m h (omega arith)))
    (λ i j h k. moved_apart n (f m) (f i) (f j) (apart i m (omega arith) (omega arith)) (apart j m k (omega arith)) (apart i j h (omega arith)))
    in
    omega arith
