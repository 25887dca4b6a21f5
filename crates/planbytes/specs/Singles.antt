-- A read of one byte asks for that byte, and one that goes by it for as many more as the byte says.
use Rattle.std.proofs.Common.{◌≡◌, ℕ, zero, suc, ◌+◌, ◌-◌, ◌≤◌, Bool, cond, List, [], ◌∷◌, length, take, drop, Ok, Err, sym, refl, ap, ◌∙◌, arith}
use Rattle.std.proofs.lemmas.Bool.Decides.{nat_tests}
use Rattle.faults.specs.declared.fault.Cause.{Cause}
use Rattle.faults.specs.declared.fault.Fault.{Fault}
use Rattle.planbytes.specs.Bytes.{Bytes, fault, Reading, Read, and_then, byte_at}
use Rattle.planbytes.specs.Records.{byte_or_none}
use Rattle.planbytes.specs.Local.{Width, Local, shortened, then_local}

-- A read of one byte, whose value is that byte.
pub record Single (f : Read ℕ) : Type 0 where
  pub local : Local (λ bs. 1) f
  pub value : (bs : List ℕ) (o b : ℕ) (cs : Bytes) → f (bs, o) ≡ Ok (b, cs) → b ≡ byte_or_none bs 0

byte_same : (bs : List ℕ) (o n : ℕ) → 1 ≤ n → byte_at (take n bs, o) ≡ shortened (n - 1) (byte_at (bs, o))
byte_same bs o zero h = absurd (omega (arith, h))
byte_same [] o (suc n) h = refl
byte_same (b ∷ bs) o (suc n) h = ap (λ k. Ok (b, (take k bs, o + 1))) (let e : n ≡ suc n - 1 = omega arith in e)

byte_ends : (bs : List ℕ) (o b : ℕ) (cs : Bytes) → byte_at (bs, o) ≡ Ok (b, cs) → (cs ≡ (drop 1 bs, o + 1)) × (1 ≤ length bs)
byte_ends [] o b cs e = absurd (cc)
byte_ends (c ∷ bs) o b cs e = grind arith

-- The first of some bytes.
pub byte_first : (b : ℕ) (bs : List ℕ) → b ≡ byte_or_none (b ∷ bs) 0
byte_first b bs = grind (arith, nat_tests)

byte_value : (bs : List ℕ) (o b : ℕ) (cs : Bytes) → byte_at (bs, o) ≡ Ok (b, cs) → b ≡ byte_or_none bs 0
byte_value [] o b cs e = absurd (cc)
byte_value (c ∷ bs) o b cs e = grind (arith, byte_first c bs)

pub byte_single : Single byte_at
byte_single = record { local = record { same = byte_same; ends = byte_ends }; value = byte_value }

-- A value that has to pass a test.
abbrev judged : {X : Type 0} → (X → Bool) → Fault → X → Bytes → Reading X
judged test f v bs = cond (test v) (Ok (v, bs)) (Err f)

-- A read whose value has to pass a test, else a fault at the first of the bytes left before it.
abbrev pub tested : {X : Type 0} → (X → Bool) → Cause → Read X → Read X
tested test c f bs = and_then (f bs) (judged test (fault c bs.1))

judged_same : {X : Type 0} (test : X → Bool) (f : Fault) (n : ℕ) (x : Reading X)
    → and_then (shortened n x) (judged test f) ≡ shortened n (and_then x (judged test f))
judged_same test f n x = grind arith

judged_passed : {X : Type 0} (test : X → Bool) (f : Fault) (u : X × Bytes) (x : Reading X) → and_then x (judged test f) ≡ Ok u → x ≡ Ok u
judged_passed test f u x d = grind arith

pub tested_single : (f : Read ℕ) (test : ℕ → Bool) (c : Cause) → Single f → Single (tested test c f)
tested_single f test c s = record {
  local = record {
    same = λ bs o n h. ap (λ x. and_then x (judged test (fault c o))) (s.local.same bs o n h) ∙ judged_same test (fault c o) (n - 1) (f (bs, o));
    ends = λ bs o b cs e. s.local.ends bs o b cs (judged_passed test (fault c o) (b, cs) (f (bs, o)) e);
  };
  value = λ bs o b cs e. s.value bs o b cs (judged_passed test (fault c o) (b, cs) (f (bs, o)) e);
}

-- A byte, and then a read that goes by it.
pub by_local : {X : Type 0} (w : ℕ → Width) (f : Read ℕ) (g : ℕ → Read X) → Single f → ((b : ℕ) → Local (w b) (g b))
    → Local (λ bs. 1 + w (byte_or_none bs 0) (drop 1 bs)) (λ bs. and_then (f bs) g)
by_local w f g s l = then_local (λ bs. 1) w (λ bs. 1 + w (byte_or_none bs 0) (drop 1 bs)) f g s.local l
    (λ bs o b cs e. ap (λ n. 1 + w n (drop 1 bs)) (sym (s.value bs o b cs e)) ∙ ap (λ c. 1 + w b c.0) (sym (s.local.ends bs o b cs e).0))
    (λ bs. omega arith)
