-- The flanks of a route, as the search finds them.
use Rattle.std.specs.Prelude.{ℕ, ◌-◌, Bool, true, false, cond, ◌||◌, List, [], ◌∷◌, length, Some, None, Option, ◌==◌}
use Rattle.std.specs.Option.{option_or, option_map, option_map_or}
use Rattle.layout.specs.declared.element.Element.{Element}
use Rattle.layout.specs.declared.element.Join.{Join}
use Rattle.layout.specs.declared.position.Position.{Position}
use Rattle.layout.specs.declared.position.Position.TheVariants as position
use Rattle.layout.specs.declared.route.Route.{Route}
use Rattle.layout.specs.declared.route.RouteClass.{RouteClass}
use Rattle.layout.specs.Kinds.{is_point}
use Rattle.layout.specs.Ports.{at, joined}
use Rattle.layout.specs.Ways.{place}
use Rattle.layout.specs.Uses.{path_of, overlap_of, path_reach}
use Rattle.flank.specs.declared.flanks.Flank.{Flank}

-- Whether a join leads to the element e.
abbrev pub leads_to : Option Join → ℕ → Bool
leads_to join e = option_map_or (λ far. far.element == e) join false

-- The leg of a point that a way from one neighbour to another does not use.
abbrev pub free_leg : List Element → ℕ → ℕ → ℕ → Position
free_leg es before e after =
    cond (leads_to (joined es e 1) before || leads_to (joined es e 1) after) position.Minus position.Plus

-- The free leg of the element e inside a way, which comes from the element before it.
unfoldable pub flank_in : List Element → ℕ → List ℕ → ℕ → Option Position
flank_in es before [] e = None
flank_in es before (x ∷ xs) e =
    elim xs [
      | [] ↦ None
      | y ∷ ys ↦ elim (x == e) [ true ↦ Some (free_leg es before e y) | false ↦ flank_in es x xs e ]
    ]

-- A walk that ends open where its count comes to the reach may pass one point less.
abbrev pub path_spare : RouteClass → ℕ
path_spare c = path_reach c - 1

-- The flank with a leg, if there is one.
abbrev pub with_spare : Option Position → ℕ → Option Flank
with_spare leg spare = option_map (λ l. record { leg = l; spare = spare }) leg

-- The flank of the element e, where it is a point inside the path, or inside the overlap beyond the path's last element.
-- A walk out of an overlap ends open at the first point that counts.
unfoldable pub flank_over : List Element → RouteClass → List ℕ → List ℕ → ℕ → Option Flank
flank_over es c [] overlap e = None
flank_over es c (first ∷ rest) overlap e =
    elim (is_point (at es e).kind) [
      | true ↦
          option_or (with_spare (flank_in es first rest e) (path_spare c))
          (with_spare (flank_in es (place (first ∷ rest) (length (first ∷ rest) - 1)) overlap e) 0)
      | false ↦ None
    ]

-- The flank of the element e, where it is a point that the route uses.
abbrev pub flank_of : List Element → Route → ℕ → Option Flank
flank_of es r e = flank_over es r.class (path_of r) (overlap_of r) e
