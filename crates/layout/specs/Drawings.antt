-- A drawing with nothing in it, and one element or route more.
use Rattle.std.specs.Prelude.{false, [], ◌∷◌, None}
use Rattle.bounded.specs.Lists.{empty_of, pushed}
use Rattle.layout.specs.declared.element.Element.{Element}
use Rattle.layout.specs.declared.kind.Kind.TheVariants as kind
use Rattle.layout.specs.declared.route.Route.{Route}
use Rattle.layout.specs.declared.route.RouteClass.TheVariants as class
use Rattle.layout.specs.declared.drawing.Drawing.{Drawing}

-- An element with no field.
abbrev pub no_element : Element
no_element = record { kind = kind.Track; joins = None ∷ None ∷ None ∷ []; section = None; dual = None; sort = None; marks = None }

-- A route with no field.
abbrev pub no_route : Route
no_route = record { class = class.Shunting; path = None; overlap = None; zero_overlap = false }

-- A drawing with no element and no route.
abbrev pub no_drawing : Drawing
no_drawing = record { elements = empty_of no_element; routes = empty_of no_route }

-- One element more, with the next number.
abbrev pub with_element : Drawing → Element → Drawing
with_element d e = record { elements = pushed d.elements e; routes = d.routes }

-- One route more, with the next number.
abbrev pub with_route : Drawing → Route → Drawing
with_route d r = record { elements = d.elements; routes = pushed d.routes r }
