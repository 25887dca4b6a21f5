-- What a field means: for each of 96 elements a device, for each of 64 sections whether it is occupied.
use Rattle.std.specs.Prelude.{◌≡◌, ℕ, Bool, true, false, cond, List, length, replicate, Option, nat_lt, slice_index_or, slice_set}
use Rattle.layout.specs.declared.position.Position.{Position}
use Rattle.field.specs.declared.device.Device.{Device}
use Rattle.field.specs.Devices.{unknown, blank, device_ordered, device_reporting, device_blocking, device_burning}

-- Devices by element number, and by section number whether the section is occupied.
pub record Meaning : Type 0 where
  pub devices : List Device
  pub sections : List Bool

-- There are 96 elements and 64 sections.
abbrev pub Sized : Meaning → Type 0
Sized m = (length m.devices ≡ 96) × (length m.sections ≡ 64)

-- The device of an element; the unknown one above 95.
abbrev pub device_of : Meaning → ℕ → Device
device_of m e = cond (nat_lt e 96) (slice_index_or m.devices e blank) unknown

-- The answers for an element, each a part of its device.
abbrev pub report_of : Meaning → ℕ → Option Position
report_of m e = (device_of m e).report

abbrev pub blocked_of : Meaning → ℕ → Bool
blocked_of m e = (device_of m e).blocked

abbrev pub burning_of : Meaning → ℕ → Bool
burning_of m e = (device_of m e).burning

abbrev pub order_of : Meaning → ℕ → Option Position
order_of m e = (device_of m e).order

-- A section above 63 is occupied.
abbrev pub occupied_of : Meaning → ℕ → Bool
occupied_of m s = cond (nat_lt s 64) (slice_index_or m.sections s false) true

-- Another device for an element; nothing changes above 95.
abbrev pub with_device : Meaning → ℕ → Device → Meaning
with_device m e d = cond (nat_lt e 96) (record { devices = slice_set m.devices e d; sections = m.sections }) m

-- An order changes the device of its element, and nothing else.
abbrev pub ordered : Meaning → ℕ → Position → Meaning
ordered m e p = with_device m e (device_ordered (slice_index_or m.devices e blank) p)

-- A report, a block or a lamp told does so too.
abbrev pub told_report : Meaning → ℕ → Option Position → Meaning
told_report m e r = with_device m e (device_reporting (slice_index_or m.devices e blank) r)

abbrev pub told_block : Meaning → ℕ → Bool → Meaning
told_block m e v = with_device m e (device_blocking (slice_index_or m.devices e blank) v)

abbrev pub told_lamp : Meaning → ℕ → Bool → Meaning
told_lamp m e v = with_device m e (device_burning (slice_index_or m.devices e blank) v)

-- A section is told occupied or free; nothing changes above 63.
abbrev pub told_occupation : Meaning → ℕ → Bool → Meaning
told_occupation m s v = cond (nat_lt s 64) (record { devices = m.devices; sections = slice_set m.sections s v }) m

-- Nothing has been heard: no control, nothing blocked, dark, no orders, sections free.
abbrev pub fresh_meaning : Meaning
fresh_meaning = record { devices = replicate 96 blank; sections = replicate 64 false }
