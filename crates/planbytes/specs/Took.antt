-- What a reader did.
use Rattle.std.specs.Prelude.{◌≡◌, Result}
use Rattle.faults.specs.declared.fault.Fault.{Fault}
use Rattle.planbytes.specs.declared.reader.Reader.{Reader}
use Rattle.planbytes.specs.Bytes.{Bytes, Read, ended_at}

-- What is left to a reader.
abbrev pub left : Reader → Bytes
left reader = (reader.bytes.now, reader.position)

-- It read this, and what is left to it was left then. Where it met a fault it is not used again.
abbrev pub Took : {X : Type 0} → Reader → Reader → Result X Fault → Read X → Type 0
Took before after r read = ended_at r (left after) ≡ read (left before)
