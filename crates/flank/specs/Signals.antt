-- Passing signals, as the search does it.
use Rattle.std.specs.Prelude.{ℕ, zero, suc, ◌-◌, Bool, true, false, not, ◌&&◌, ◌||◌, List, Option, ◌==◌}
use Rattle.std.specs.Option.{unwrap_or, option_map_or}
use Rattle.layout.specs.declared.element.Element.{Element}
use Rattle.layout.specs.declared.element.Join.{Join}
use Rattle.layout.specs.declared.kind.Marks.{Marks}
use Rattle.layout.specs.Kinds.{is_signal}
use Rattle.layout.specs.Ports.{at, joined}
use Rattle.layout.specs.Ways.{port}

-- The port that a port is joined to; itself where it has no join.
abbrev pub far_end : List Element → Join → Join
far_end es q = unwrap_or (joined es q.element q.port) q

-- A signal's other port.
abbrev pub across : Join → Join
across q = port q.element (1 - q.port)

-- The port met next after passing a signal.
abbrev pub onward : List Element → Join → Join
onward es q = far_end es (across q)

-- Whether the marks of a signal say that it is requested at flanks.
abbrev pub is_requested : Option Marks → Bool
is_requested marks = option_map_or (λ m. m.requested) marks false

-- A signal is able to shield where it is marked as requested and met at its front.
abbrev pub is_able_signal : Element → ℕ → Bool
is_able_signal e p = is_requested e.marks && p == 1

-- A walk passes the signals that are not able; beyond a toe the able ones are passed too.
abbrev pub passes : Bool → List Element → Join → Bool
passes able_too es q =
    is_signal (at es q.element).kind && (able_too || not (is_able_signal (at es q.element) q.port))

-- The first port met, from a port on, that is not passed, where at most n are passed.
unfoldable pub along : Bool → List Element → ℕ → Join → Join
along able_too es zero q = q
along able_too es (suc n) q = elim (passes able_too es q) [ true ↦ along able_too es n (onward es q) | false ↦ q ]

-- As many ports as 96 signals have: no walk passes more of them in a row.
abbrev pub signal_ports : ℕ
signal_ports = 192
