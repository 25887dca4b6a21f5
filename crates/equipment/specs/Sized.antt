-- In either form there are 96 elements and 64 sections.
use Rattle.field.specs.Meaning.{Sized}
use Rattle.contacts.specs.Sized.{length-devices, length-sections}
use Rattle.equipment.specs.declared.equipment.Equipment.{Equipment}
use Rattle.equipment.specs.declared.equipment.Equipment.TheVariants.{Table, Contacts}
use Rattle.equipment.specs.Equipment.{equipment_meaning}

pub sized : (e : Equipment) → Sized (equipment_meaning e)
sized (Table t) = t.sized
sized (Contacts p) = (length-devices p.bytes, length-sections p.bytes)
