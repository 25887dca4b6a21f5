-- What a field in one of two forms means.
use Rattle.std.specs.Prelude.{ℕ, List, Bool, true, false, Option, Some, None}
use Rattle.field.specs.Meaning.{Meaning}
use Rattle.tablefield.specs.Table.{table_meaning}
use Rattle.contacts.specs.Picture.{picture_meaning}
use Rattle.equipment.specs.declared.equipment.Equipment.{Equipment}
use Rattle.equipment.specs.declared.equipment.Equipment.TheVariants.{Table, Contacts}

-- A field means what its form means.
abbrev pub equipment_meaning : Equipment → Meaning
equipment_meaning (Table t) = table_meaning t
equipment_meaning (Contacts p) = picture_meaning p

-- Whether a field is a contact picture.
abbrev pub has_contacts : Equipment → Bool
has_contacts (Table t) = false
has_contacts (Contacts p) = true

-- The bytes of a contact picture; a table has none.
abbrev pub picture_bytes : Equipment → Option (List ℕ)
picture_bytes (Table t) = None
picture_bytes (Contacts p) = Some p.bytes
