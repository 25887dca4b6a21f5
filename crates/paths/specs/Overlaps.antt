-- Sound overlaps, and which routes may have one: the test.
use Rattle.std.specs.Prelude.{ℕ, ◌-◌, Bool, true, false, not, ◌&&◌, ◌||◌, List, length, is_some, Some, None, Option, nat_lt, slice_index}
use Rattle.bounded.specs.declared.bounded.Bounded.{Bounded}
use Rattle.bounded.specs.Lists.{listed}
use Rattle.layout.specs.declared.element.Element.{Element}
use Rattle.layout.specs.declared.route.Route.{Route}
use Rattle.layout.specs.declared.route.RouteClass.{RouteClass}
use Rattle.layout.specs.declared.route.RouteClass.TheVariants as class
use Rattle.layout.specs.Kinds.{is_signal, is_point}
use Rattle.layout.specs.Ports.{at}
use Rattle.paths.specs.Following.{follows}
use Rattle.paths.specs.Places.{are_within, are_new}

-- Elements in a row are a sound overlap beyond the end of a path: it ends at a signal, the way goes on from there,
-- repeats no element of itself or of the path, and does not end at a point.
abbrev pub is_overlap : List Element → List ℕ → List ℕ → Bool
is_overlap es path overlap =
    nat_lt 0 (length path)
    && (nat_lt 0 (length overlap)
    && (is_signal (at es (slice_index path (length path - 1))).kind
    && (are_within es overlap
    && (are_new path overlap
    && (is_some (follows es (slice_index path (length path - 1)) 0 overlap)
    && not (is_point (at es (slice_index overlap (length overlap - 1))).kind))))))

-- A sound overlap beyond the end of the path, if there is a path.
abbrev pub is_beyond : List Element → Option (Bounded ℕ 24) → Bounded ℕ 8 → Bool
is_beyond es None overlap = false
is_beyond es (Some path) overlap = is_overlap es (listed path) (listed overlap)

abbrev pub is_train : RouteClass → Bool
is_train class.Shunting = false
is_train class.Train = true

-- A route without an overlap field has a zero overlap only if it is a train route;
-- one with it is a train route without zero overlap, and the overlap is sound.
abbrev pub is_overlap_allowed : List Element → Route → Bool
is_overlap_allowed es r =
    elim r.overlap [
      | None ↦ not r.zero_overlap || is_train r.class
      | Some overlap ↦ is_train r.class && (not r.zero_overlap && is_beyond es r.path overlap)
    ]
