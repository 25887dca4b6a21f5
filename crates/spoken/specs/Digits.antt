-- Bytes that are written in hexadecimal digits. A text is the list of its bytes.
use Rattle.std.specs.Prelude.{ℕ, Bool, Option, Some, None, List, [], ◌∷◌, ◌+◌, ◌*◌, codes, cond, length, nat_lt, ◌==◌, ◌||◌, Result, Ok, Err}
use Rattle.std.specs.Char.{digit_value}
use Rattle.spoken.specs.declared.hex.HexFault.{HexFault}
use Rattle.spoken.specs.declared.hex.HexFault.TheVariants as fault

-- What is said of a fault in the digits. For want of memory the words are the library's.
abbrev pub hex_fault_text : HexFault → Option (List ℕ)
hex_fault_text fault.NoDigit = Some (codes "a byte is written in hexadecimal digits, and between bytes stand only blanks and bars")
hex_fault_text fault.HalfByte = Some (codes "a byte has two digits")
hex_fault_text fault.NoPicture = Some (codes "a contact picture has 104 bytes")
hex_fault_text fault.OutOfMemory = None

-- Between bytes stand spaces, tabs and bars.
unfoldable pub is_gap : ℕ → Bool
is_gap sign = (sign == 32) || ((sign == 9) || (sign == 124))

-- A digit is 0 to 9 or a letter from A to F, in upper or lower case.
abbrev pub digit_in : ℕ → Result ℕ HexFault
digit_in sign = cond (nat_lt (digit_value sign) 16) (Ok (digit_value sign)) (Err fault.NoDigit)

-- Two digits spell a byte, the first one its sixteens.
abbrev pub spelled : Result ℕ HexFault → Result ℕ HexFault → Result ℕ HexFault
spelled (Err fault) low = Err fault
spelled (Ok high) (Err fault) = Err fault
spelled (Ok high) (Ok low) = Ok (high * 16 + low)

-- A digit alone is half a byte.
abbrev pub alone : Result ℕ HexFault → Result ℕ HexFault
alone (Err fault) = Err fault
alone (Ok digit) = Err fault.HalfByte

-- The byte that the first two signs spell.
abbrev pub byte_in : List ℕ → Result ℕ HexFault
byte_in [] = Err fault.HalfByte
byte_in (lone ∷ []) = alone (digit_in lone)
byte_in (high ∷ low ∷ more) = spelled (digit_in high) (digit_in low)

-- Of the faults in a text the first one counts.
abbrev pub with_byte : Result ℕ HexFault → Result (List ℕ) HexFault → Result (List ℕ) HexFault
with_byte (Err fault) bytes = Err fault
with_byte (Ok byte) (Err fault) = Err fault
with_byte (Ok byte) (Ok bytes) = Ok (byte ∷ bytes)

-- The bytes of a text: gaps are passed over, and a byte is two signs with no gap between.
abbrev pub bytes_in : List ℕ → Result (List ℕ) HexFault
bytes_in [] = Ok []
bytes_in (lone ∷ []) = cond (is_gap lone) (Ok []) (with_byte (byte_in (lone ∷ [])) (Ok []))
bytes_in (high ∷ low ∷ more) =
    cond (is_gap high) (bytes_in (low ∷ more))
    (cond (is_gap low) (with_byte (byte_in (high ∷ [])) (bytes_in more)) (with_byte (byte_in (high ∷ low ∷ [])) (bytes_in more)))

-- Bytes are a contact picture where there are 104 of them.
abbrev pub as_picture : Result (List ℕ) HexFault → Result (List ℕ) HexFault
as_picture (Err fault) = Err fault
as_picture (Ok bytes) = cond (length bytes == 104) (Ok bytes) (Err fault.NoPicture)

-- The contact picture that a text spells.
abbrev pub picture_in : List ℕ → Result (List ℕ) HexFault
picture_in text = as_picture (bytes_in text)
