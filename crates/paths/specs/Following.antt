-- Following a way from element to element: the test.
use Rattle.std.specs.Prelude.{ℕ, Bool, cond, not, ◌&&◌, ◌||◌, List, [], ◌∷◌, map, Some, None, Option, ◌==◌, nat_lt}
use Rattle.std.specs.List.{fold, range_with_len}
use Rattle.std.specs.Option.{option_or, option_and_then}
use Rattle.layout.specs.declared.element.Element.{Element}
use Rattle.layout.specs.declared.element.Join.{Join}
use Rattle.layout.specs.declared.kind.Kind.{Kind}
use Rattle.layout.specs.Kinds.{ports, is_point}
use Rattle.layout.specs.Ports.{at, joined}

-- An element is left by another port than it was entered at, one that its kind has; at a point one of the two is the toe.
abbrev pub turns : Kind → ℕ → ℕ → Bool
turns k entered left = nat_lt left (ports k) && (not (left == entered) && (not (is_point k) || (entered == 0 || left == 0)))

abbrev pub exit_over : Option Join → ℕ → Bool → Option ℕ
exit_over None next sound = None
exit_over (Some j) next sound = cond (j.element == next && sound) (Some j.port) None

-- Where the next element is entered, if the way to it is by the port `left`.
abbrev pub exit : List Element → ℕ → ℕ → ℕ → ℕ → Option ℕ
exit es from entered next left = exit_over (joined es from left) next (turns (at es from).kind entered left)

-- Where the next element is entered, by the first of the three ports by which the way to it is.
unfoldable pub step : List Element → ℕ → ℕ → ℕ → Option ℕ
step es from entered next = fold option_or None (map (exit es from entered next) (range_with_len 0 3))

-- Where the last of some elements is entered by the way over them, from an element that was entered at a port.
abbrev pub follows : List Element → ℕ → ℕ → List ℕ → Option ℕ
follows es from entered [] = Some entered
follows es from entered (next ∷ rest) = option_and_then (λ p. follows es next p rest) (step es from entered next)
