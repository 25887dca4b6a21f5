-- What a table of devices means.
use Rattle.field.specs.Meaning.{Meaning}
use Rattle.tablefield.specs.declared.table.TableField.{TableField}

-- It means what it holds.
abbrev pub table_meaning : TableField → Meaning
table_meaning t = record { devices = t.devices; sections = t.sections }
