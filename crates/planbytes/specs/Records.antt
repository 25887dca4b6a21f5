-- Going record by record: where a record ends, which bytes it has, and what they say.
use Rattle.std.specs.Prelude.{◌≡◌, ℕ, ◌+◌, ◌^◌, ◌<◌, min, cond, List, length, take, drop, Ok, Result, nat_lt, slice_index}
use Rattle.bits.specs.Bits.{bit}
use Rattle.faults.specs.declared.fault.Fault.{Fault}
use Rattle.layout.specs.declared.drawing.Drawing.{Drawing}
use Rattle.layout.specs.Drawings.{with_element, with_route}
use Rattle.planbytes.specs.declared.record.Record.{Record}
use Rattle.planbytes.specs.declared.record.Record.TheVariants as the
use Rattle.planbytes.specs.Bytes.{Bytes, Reading, Read, and_then, times, byte_at, made_of, ended_at}
use Rattle.planbytes.specs.Fields.{element_at, route_at}

-- How many bytes a field of n bytes takes.
abbrev pub width : ℕ → ℕ → ℕ → ℕ
width map place n = cond (bit map place) n 0

-- An element record has its map, and the fields whose bits stand.
abbrev pub element_size : ℕ → ℕ
element_size m = 1 + width m 0 1 + width m 1 2 + width m 2 2 + width m 3 2 + width m 4 1 + width m 5 1 + width m 6 1 + width m 7 1

-- A byte, or 0 where there is none.
abbrev pub byte_or_none : List ℕ → ℕ → ℕ
byte_or_none bs p = cond (nat_lt p (length bs)) (slice_index bs p) 0

-- A list takes its count, which stands at p, and as many bytes as the count says.
abbrev pub list_size : List ℕ → ℕ → ℕ
list_size bs p = 1 + byte_or_none bs p

-- Where the path and the overlap of a route record stand, counted from its first byte.
abbrev pub path_place : ℕ → ℕ
path_place m = 1 + width m 0 1

abbrev pub overlap_place : ℕ → List ℕ → ℕ
overlap_place m bs = path_place m + width m 1 (list_size bs (path_place m))

-- A route record has its map, and the fields whose bits stand.
abbrev pub route_size : ℕ → List ℕ → ℕ
route_size m bs = overlap_place m bs + width m 2 (list_size bs (overlap_place m bs)) + width m 3 1

-- The bytes of a record and its offset, whichever its case.
abbrev pub seen : Record → Bytes
seen (the.Element bs o) = (bs.now, o)
seen (the.Route bs o) = (bs.now, o)

-- The place after a record is a number of the machine.
abbrev pub Placed : Record → Type 0
Placed r = (seen r).1 + length (seen r).0 < 2 ^ 64

-- The first n bytes.
abbrev pub first_at : ℕ → Read Bytes
first_at n bs = Ok ((take n bs.0, bs.1), (drop n bs.0, bs.1 + n))

-- The bytes of a record: as many as its map and what follows ask for, or as there are.
abbrev pub record_at : (ℕ → List ℕ → ℕ) → Read Bytes
record_at size bs = and_then (byte_at bs) (λ m cs. first_at (min (size m bs.0) (length bs.0)) bs)

-- The value of a read, without the bytes left after it.
abbrev pub value_of : {X : Type 0} → Reading X → Result X Fault
value_of = made_of (λ v. v.0)

-- What the bytes of a record say, read alone.
abbrev pub said : {X : Type 0} → Read X → Bytes → Result X Fault
said read part = value_of (read part)

-- A drawing with what a record says at its end: with an element more or a route more, by the record's case.
abbrev pub added : Drawing → Record → Result Drawing Fault
added d (the.Element bs o) = made_of (with_element d) (said element_at (bs.now, o))
added d (the.Route bs o) = made_of (with_route d) (said route_at (bs.now, o))

-- By its case, a record adds to a drawing what a read says of the bytes of the record.
abbrev pub Adds : {X : Type 0} → (Drawing → X → Drawing) → Read X → Record → Type 0
Adds appended read r = (d : Drawing) → added d r ≡ made_of (appended d) (said read (seen r))

-- A drawing with what the next record says at its end.
abbrev pub record_step : {X : Type 0} → (Drawing → X → Drawing) → Read X → Drawing → Read Drawing
record_step appended read d bs = and_then (read bs) (λ x cs. Ok (appended d x, cs))

-- The same of as many records as a count says.
abbrev pub records_at : {X : Type 0} → (Drawing → X → Drawing) → Read X → ℕ → Drawing → Read Drawing
records_at appended read n d bs = times n (record_step appended read) d bs

-- What is there after a call, or the fault that the call met.
abbrev pub leaves : {X S : Type 0} → Result X Fault → S → Result S Fault
leaves r s = made_of (λ _. s) r

-- A record read alone says what the bytes say in their order, and what is left after it is left after what was read.
abbrev pub InOrder : {X : Type 0} → (ℕ → List ℕ → ℕ) → Read X → Type 0
InOrder size read = (bs : Bytes) → and_then (record_at size bs) (λ part cs. ended_at (said read part) cs) ≡ read bs
