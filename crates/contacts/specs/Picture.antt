-- What a contact picture means: 96 bytes of elements, then a bit for each section.
use Rattle.std.specs.Prelude.{ℕ, ◌+◌, ◌/◌, ◌%◌, Bool, true, cond, List, map, Option, nat_lt, slice_index, slice_set}
use Rattle.std.specs.List.{range_with_len}
use Rattle.bits.specs.Bits.{bit, with_bit}
use Rattle.layout.specs.declared.position.Position.{Position}
use Rattle.field.specs.declared.device.Device.{Device}
use Rattle.field.specs.Devices.{unknown}
use Rattle.field.specs.Meaning.{Meaning}
use Rattle.contacts.specs.declared.picture.ContactPicture.{ContactPicture}
use Rattle.contacts.specs.Bytes.{device_in}

-- The byte of an element.
abbrev pub byte_of : List ℕ → ℕ → ℕ
byte_of bytes e = slice_index bytes e

-- A section's bit stands behind the bytes of the elements, eight sections to a byte, the lowest bit first.
-- It is 1 for occupied.
abbrev pub section_byte : ℕ → ℕ
section_byte s = 96 + s / 8

abbrev pub section_bit : ℕ → ℕ
section_bit s = s % 8

abbrev pub section_in : List ℕ → ℕ → Bool
section_in bytes s = bit (byte_of bytes (section_byte s)) (section_bit s)

-- The devices of the 96 elements (shut, so that no goal writes out 96 of them).
unfoldable pub devices_in : List ℕ → List Device
devices_in bytes = map (λ e. device_in (byte_of bytes e)) (range_with_len 0 96)

-- Whether each of the 64 sections is occupied.
unfoldable pub sections_in : List ℕ → List Bool
sections_in bytes = map (section_in bytes) (range_with_len 0 64)

-- What 104 bytes mean, and so what a picture means.
abbrev pub bytes_mean : List ℕ → Meaning
bytes_mean bytes = record { devices = devices_in bytes; sections = sections_in bytes }

abbrev pub picture_meaning : ContactPicture → Meaning
picture_meaning p = bytes_mean p.bytes

-- What the questions read: the bits of an element's byte, or the bit of a section.
abbrev pub device_read : List ℕ → ℕ → Device
device_read bytes e = cond (nat_lt e 96) (device_in (byte_of bytes e)) unknown

abbrev pub report_read : List ℕ → ℕ → Option Position
report_read bytes e = (device_read bytes e).report

abbrev pub blocked_read : List ℕ → ℕ → Bool
blocked_read bytes e = (device_read bytes e).blocked

abbrev pub burning_read : List ℕ → ℕ → Bool
burning_read bytes e = (device_read bytes e).burning

abbrev pub order_read : List ℕ → ℕ → Option Position
order_read bytes e = (device_read bytes e).order

abbrev pub occupied_read : List ℕ → ℕ → Bool
occupied_read bytes s = cond (nat_lt s 64) (section_in bytes s) true

-- The byte of an element is changed, and no other byte; nothing changes above 95.
abbrev pub with_byte : List ℕ → ℕ → (ℕ → ℕ) → List ℕ
with_byte bytes e change = cond (nat_lt e 96) (slice_set bytes e (change (byte_of bytes e))) bytes

-- The bit of a section is written, and no other bit; nothing changes above 63.
abbrev pub with_section : List ℕ → ℕ → Bool → List ℕ
with_section bytes s v = cond (nat_lt s 64) (slice_set bytes (section_byte s) (with_bit (byte_of bytes (section_byte s)) (section_bit s) v)) bytes
