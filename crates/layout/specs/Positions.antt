-- The two positions of everything that a route can hold.
use Rattle.layout.specs.declared.position.Position.{Position}
use Rattle.layout.specs.declared.position.Position.TheVariants as position

-- The other of the two.
abbrev pub other : Position → Position
other position.Plus = position.Minus
other position.Minus = position.Plus
