-- What the walks out of a flank find, and the table in which the search marks it.
use Rattle.std.specs.Prelude.{ℕ, zero, suc, Bool, true, false, List, [], ◌∷◌, ◌++◌, slice_index_or, slice_set}
use Rattle.layout.specs.declared.element.Element.{Element}
use Rattle.layout.specs.declared.element.Join.{Join}
use Rattle.layout.specs.declared.position.Position.{Position}
use Rattle.layout.specs.declared.position.Position.TheVariants as position
use Rattle.layout.specs.Ways.{port}
use Rattle.flank.specs.declared.answers.Mark.{Mark}
use Rattle.flank.specs.declared.meeting.Meeting.TheVariants.{Ends, Shields, AtToe, AtLeg}
use Rattle.flank.specs.Signals.{far_end, along, signal_ports}
use Rattle.flank.specs.Meetings.{meets}

-- A walk finds an element that is able to shield in a position, or it ends open at a point.
pub data Finding : Type 0 where
  shield : ℕ → Position → Finding
  open_end : ℕ → Finding

-- The first port met, from a port on, that is no passed signal.
abbrev pub met : List Element → Join → Join
met es q = along false es signal_ports q

-- What the walks find that meet the port m and may still pass so many points that count.
-- A point met at its toe is passed by either leg, one that is met at a leg by its toe.
unfoldable pub found : ℕ → List Element → List Bool → Join → List Finding
found zero es used m =
    elim (meets es used m) [
      | Ends ↦ []
      | Shields p ↦ shield m.element p ∷ []
      | AtToe ↦ open_end m.element ∷ []
      | AtLeg ↦ open_end m.element ∷ []
    ]
found (suc n) es used m =
    elim (meets es used m) [
      | Ends ↦ []
      | Shields p ↦ shield m.element p ∷ []
      | AtToe ↦
          found n es used (met es (far_end es (port m.element 1))) ++ found n es used (met es (far_end es (port m.element 2)))
      | AtLeg ↦ found n es used (met es (far_end es (port m.element 0)))
    ]

-- What the walks find that come to the port q.
abbrev pub walk : ℕ → List Element → List Bool → Join → List Finding
walk n es used q = found n es used (met es q)

-- An element at which no walk has found anything.
abbrev pub unmarked : Mark
unmarked = record { plus = false; minus = false; open_end = false }

-- An element requested in a position too, and one at which a walk ends open too.
abbrev pub asked : Position → Mark → Mark
asked position.Plus m = record { plus = true; minus = m.minus; open_end = m.open_end }
asked position.Minus m = record { plus = m.plus; minus = true; open_end = m.open_end }

abbrev pub opened : Mark → Mark
opened m = record { plus = m.plus; minus = m.minus; open_end = true }

-- A table by element number with one element requested in a position, and with a walk that ends open at one.
abbrev pub marked_at : ℕ → Position → List Mark → List Mark
marked_at e p t = slice_set t e (asked p (slice_index_or t e unmarked))

abbrev pub opened_at : ℕ → List Mark → List Mark
opened_at e t = slice_set t e (opened (slice_index_or t e unmarked))

-- A table with one finding marked in it.
abbrev pub mark : Finding → List Mark → List Mark
mark (shield e p) t = marked_at e p t
mark (open_end e) t = opened_at e t

-- A table with all findings marked in it.
unfoldable pub marks : List Finding → List Mark → List Mark
marks [] t = t
marks (f ∷ fs) t = marks fs (mark f t)
