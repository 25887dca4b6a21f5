-- When two positions are one, and when a report is of a position.
use Rattle.std.specs.Prelude.{Bool, true, false, Some, Option}
use Rattle.std.specs.Option.{option_eq}
use Rattle.layout.specs.declared.position.Position.{Position}
use Rattle.layout.specs.declared.position.Position.TheVariants as position

abbrev pub same : Position → Position → Bool
same position.Plus position.Plus = true
same position.Plus position.Minus = false
same position.Minus position.Plus = false
same position.Minus position.Minus = true

-- A report is of a position; no control is of none.
abbrev pub reports : Option Position → Position → Bool
reports report p = option_eq same report (Some p)
