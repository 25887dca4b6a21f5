-- Sound paths: the test.
use Rattle.std.specs.Prelude.{ℕ, ◌-◌, Bool, true, false, not, ◌&&◌, List, [], length, drop, Some, None, Option, ◌==◌, nat_lt, slice_index}
use Rattle.std.specs.Option.{option_map_or}
use Rattle.bounded.specs.Lists.{listed}
use Rattle.layout.specs.declared.element.Element.{Element}
use Rattle.layout.specs.declared.kind.Kind.{Kind}
use Rattle.layout.specs.declared.kind.Kind.TheVariants as kind
use Rattle.layout.specs.declared.kind.Sort.{Sort}
use Rattle.layout.specs.declared.kind.Sort.TheVariants as sort
use Rattle.layout.specs.declared.route.Route.{Route}
use Rattle.layout.specs.declared.route.RouteClass.{RouteClass}
use Rattle.layout.specs.declared.route.RouteClass.TheVariants as class
use Rattle.layout.specs.Kinds.{is_signal}
use Rattle.layout.specs.Ports.{at}
use Rattle.paths.specs.Following.{follows}
use Rattle.paths.specs.Places.{are_within, are_new, are_signals_between}

-- A train route starts at a train or entry signal, a shunting route at a shunting or train signal.
abbrev pub may_start : RouteClass → Option Sort → Bool
may_start class.Train None = false
may_start class.Train (Some sort.Shunting) = false
may_start class.Train (Some sort.Train) = true
may_start class.Train (Some sort.Entry) = true
may_start class.Shunting None = false
may_start class.Shunting (Some sort.Shunting) = true
may_start class.Shunting (Some sort.Train) = true
may_start class.Shunting (Some sort.Entry) = false

abbrev pub is_start : List Element → RouteClass → ℕ → Bool
is_start es c e = is_signal (at es e).kind && may_start c (at es e).sort

-- A path ends at a track, or at a signal that it meets at its rear.
abbrev pub may_end : Kind → ℕ → Bool
may_end kind.Track entered = true
may_end kind.Point entered = false
may_end kind.Derailer entered = false
may_end kind.Signal entered = entered == 0
may_end kind.PlanEnd entered = false

-- The way can be followed from its first element, left as if it had been entered at port 0, to an element at which it may end.
abbrev pub is_end : List Element → List ℕ → Bool
is_end es path =
    option_map_or (may_end (at es (slice_index path (length path - 1))).kind) (follows es (slice_index path 0) 0 (drop 1 path)) false

-- Elements in a row are a sound path for a route of a class.
abbrev pub is_path : List Element → RouteClass → List ℕ → Bool
is_path es c path =
    nat_lt 2 (length path)
    && (are_within es path
    && (are_new [] path
    && (is_start es c (slice_index path 0)
    && (not (are_signals_between es path)
    && is_end es path))))

-- A route has a path, and a sound one.
abbrev pub has_path : List Element → Route → Bool
has_path es r = option_map_or (λ path. is_path es r.class (listed path)) r.path false
