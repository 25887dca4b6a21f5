-- The situation of a station: its holds and route states, and what its field means.
use Rattle.field.specs.Meaning.{Meaning}
use Rattle.holds.specs.declared.interlocking.Interlocking.{Interlocking}
use Rattle.holds.specs.Interlockings.{idle}
use Rattle.readiness.specs.declared.yard.Yard.{Yard}

pub record Situation : Type 0 where
  pub inner : Interlocking
  pub meant : Meaning

abbrev pub situation : Interlocking → Meaning → Situation
situation i m = record { inner = i; meant = m }

-- The situation of a yard, by what a field means.
abbrev pub situation_of : {F : Type 0} → (F → Meaning) → Yard F → Situation
situation_of meaning y = situation y.interlocking (meaning y.field)

-- Opening a station: nothing is held, all routes are absent, and the field is as it is.
abbrev pub opened : Meaning → Situation
opened m = situation idle m
