-- Tests of the numbers of a way, place by place.
use Rattle.std.specs.Prelude.{ℕ, Bool, not, ◌&&◌, List, length, take, ◌==◌, nat_lt}
use Rattle.std.specs.List.{list_all, list_any, enumerate_from}
use Rattle.layout.specs.declared.element.Element.{Element}
use Rattle.layout.specs.Kinds.{is_signal}
use Rattle.layout.specs.Ports.{at}
use Rattle.layout.specs.Ways.{inner}

-- Some numbers lack the number x.
unfoldable pub lacks : List ℕ → ℕ → Bool
lacks ns x = not (list_any (λ n. n == x) ns)

-- All numbers of a way are elements of the drawing.
unfoldable pub are_within : List Element → List ℕ → Bool
are_within es way = list_all (λ e. nat_lt e (length es)) way

-- The number x at the place k of a way stands neither earlier in it nor in the way before it.
abbrev pub is_new : List ℕ → List ℕ → ℕ → ℕ → Bool
is_new before way k x = lacks before x && lacks (take k way) x

-- No number of a way stands earlier in it, or in the way before it.
unfoldable pub are_new : List ℕ → List ℕ → Bool
are_new before way = list_all (λ p. is_new before way p.0 p.1) (enumerate_from 0 way)

-- All elements between the first and the last of a way are signals.
unfoldable pub are_signals_between : List Element → List ℕ → Bool
are_signals_between es way = list_all (λ e. is_signal (at es e).kind) (inner way)
