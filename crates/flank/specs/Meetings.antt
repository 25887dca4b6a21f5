-- What happens where a walk meets an element, as the search does it.
use Rattle.std.specs.Prelude.{ℕ, Bool, true, false, cond, List, Some, None, Option, ◌==◌, slice_index_or}
use Rattle.layout.specs.declared.element.Element.{Element}
use Rattle.layout.specs.declared.element.Join.{Join}
use Rattle.layout.specs.declared.kind.Kind.{Kind}
use Rattle.layout.specs.declared.kind.Kind.TheVariants as kind
use Rattle.layout.specs.declared.kind.Dual.{Dual}
use Rattle.layout.specs.declared.kind.Dual.TheVariants as dual
use Rattle.layout.specs.declared.position.Position.{Position}
use Rattle.layout.specs.declared.position.Position.TheVariants as position
use Rattle.layout.specs.Ports.{at}
use Rattle.layout.specs.Ways.{port}
use Rattle.flank.specs.declared.meeting.Meeting.{Meeting}
use Rattle.flank.specs.declared.meeting.Meeting.TheVariants.{Ends, Shields, AtToe, AtLeg}
use Rattle.flank.specs.Signals.{far_end, is_able_signal, along, signal_ports}

-- The position of the other leg of a point that is met at a leg.
abbrev pub other_leg : ℕ → Position
other_leg p = cond (p == 1) position.Minus position.Plus

-- A point without the dual field may shield in both positions, one with it only in the position that it prefers.
abbrev pub may_shield : Option Dual → Position → Bool
may_shield None p = true
may_shield (Some dual.NoPreference) p = false
may_shield (Some dual.PrefersPlus) position.Plus = true
may_shield (Some dual.PrefersPlus) position.Minus = false
may_shield (Some dual.PrefersMinus) position.Plus = false
may_shield (Some dual.PrefersMinus) position.Minus = true

-- The first port beyond the toe of a point, all signals left out.
abbrev pub beyond_toe : List Element → ℕ → Join
beyond_toe es e = along true es signal_ports (far_end es (port e 0))

-- A point met at a leg ends the walk where the route lies beyond its toe; else it shields in the position of its other leg, if it may.
abbrev pub meets_leg : List Element → List Bool → Join → Meeting
meets_leg es used q =
    elim (slice_index_or used (beyond_toe es q.element).element false) [
      | true ↦ Ends
      | false ↦
          elim (may_shield (at es q.element).dual (other_leg q.port)) [ true ↦ Shields (other_leg q.port) | false ↦ AtLeg ]
    ]

-- What an element that the route does not use is to a walk, by its kind. A signal that is not able was passed before.
abbrev pub meets_kind : Kind → List Element → List Bool → Join → Meeting
meets_kind kind.Track es used q = Ends
meets_kind kind.Point es used q = elim (q.port == 0) [ true ↦ AtToe | false ↦ meets_leg es used q ]
meets_kind kind.Derailer es used q = Shields position.Plus
meets_kind kind.Signal es used q = elim (is_able_signal (at es q.element) q.port) [ true ↦ Shields position.Plus | false ↦ Ends ]
meets_kind kind.PlanEnd es used q = Ends

-- What the route uses ends the walk, whatever it is.
abbrev pub meets : List Element → List Bool → Join → Meeting
meets es used q =
    elim (slice_index_or used q.element false) [ true ↦ Ends | false ↦ meets_kind (at es q.element).kind es used q ]
