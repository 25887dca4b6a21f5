-- Points that a route would request both ways: the test.
use Rattle.std.specs.Prelude.{Bool, ◌&&◌, List}
use Rattle.std.specs.List.{list_any, zip}
use Rattle.std.specs.Option.{is_none}
use Rattle.layout.specs.declared.element.Element.{Element}
use Rattle.layout.specs.declared.route.Route.{Route}
use Rattle.layout.specs.Kinds.{is_point}
use Rattle.flank.specs.declared.answers.Mark.{Mark}
use Rattle.flank.specs.Protection.{route_marks}

-- An element, and what is asked of it: a point without the dual field is asked for in both positions.
abbrev pub is_torn : Element × Mark → Bool
is_torn asked = is_point asked.0.kind && (is_none asked.0.dual && (asked.1.plus && asked.1.minus))

-- A route requests a point without the dual field both ways.
unfoldable pub asks_both_ways : List Element → Route → Bool
asks_both_ways es r = list_any is_torn (zip es (route_marks es r))
