-- Reading bytes one after another, to the first fault.
use Rattle.std.specs.Prelude.{ℕ, zero, suc, ◌+◌, cond, ◌&&◌, List, [], ◌∷◌, Some, None, Ok, Err, Option, Result, nat_le}
use Rattle.std.specs.Result.{result_map_both}
use Rattle.faults.specs.declared.fault.Fault.{Fault}
use Rattle.faults.specs.declared.fault.Cause.{Cause}
use Rattle.faults.specs.declared.fault.Cause.TheVariants as cause

abbrev pub fault : Cause → ℕ → Fault
fault c p = record { cause = c; place = p }

-- Bytes that stand together among the offered ones, and the offset of the first of them.
abbrev pub Bytes : Type 0
Bytes = List ℕ × ℕ

-- What a read answers: a value with the bytes left after it, or a fault.
abbrev pub Reading : Type 0 → Type 0
Reading X = Result (X × Bytes) Fault

-- A read: what it answers by the bytes left before it.
abbrev pub Read : Type 0 → Type 0
Read X = Bytes → Reading X

-- A read, and then what is made of its value and of the bytes left after it: another read, or what the bytes say in the end.
abbrev pub and_then : {X Y : Type 0} → Reading X → (X → Bytes → Result Y Fault) → Result Y Fault
and_then (Ok v) f = f v.0 v.1
and_then (Err e) f = Err e

-- A step taken n times, to its first fault; it takes a state to the next one.
abbrev pub times : {S : Type 0} → ℕ → (S → Bytes → Reading S) → S → Bytes → Reading S
times zero f s bs = Ok (s, bs)
times (suc n) f s bs = and_then (f s bs) (times n f)

-- A byte; where there is none, the fault is behind the last one.
abbrev pub byte_at : Read ℕ
byte_at ([], o) = Err (fault cause.Ended o)
byte_at (b ∷ bs, o) = Ok (b, (bs, o + 1))

-- A byte from low to high; outside that range, the fault is at the byte.
abbrev pub byte_in : ℕ → ℕ → Read ℕ
byte_in low high bs = and_then (byte_at bs) (λ b cs. cond (nat_le low b && nat_le b high) (Ok (b, cs)) (Err (fault cause.OutOfRange bs.1)))

-- A byte where none may follow is a fault, at the first such byte.
abbrev pub left_over : Bytes → Option Fault
left_over ([], o) = None
left_over (b ∷ bs, o) = Some (fault cause.LeftOver o)

-- What is made of an answer; a fault stays.
abbrev pub made_of : {X Y : Type 0} → (X → Y) → Result X Fault → Result Y Fault
made_of f = result_map_both f (λ fault. fault)

-- An answer with the bytes left after it.
abbrev pub ended_at : {X : Type 0} → Result X Fault → Bytes → Reading X
ended_at r bs = made_of (λ v. (v, bs)) r
