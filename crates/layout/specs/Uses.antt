-- What a route uses, how it passes what it uses, and its flanks, in the words of the subject.
use Rattle.std.specs.Prelude.{◌≡◌, ℕ, suc, ◌-◌, ◌<◌, true, ◌⊎◌, List, [], ◌∷◌, length, Some, Option}
use Rattle.std.specs.Option.{option_map_or}
use Rattle.bounded.specs.declared.bounded.Bounded.{Bounded}
use Rattle.bounded.specs.Lists.{listed}
use Rattle.layout.specs.declared.element.Element.{Element}
use Rattle.layout.specs.declared.kind.Kind.TheVariants as kind
use Rattle.layout.specs.declared.position.Position.{Position}
use Rattle.layout.specs.declared.position.Position.TheVariants as position
use Rattle.layout.specs.declared.route.Route.{Route}
use Rattle.layout.specs.declared.route.RouteClass.{RouteClass}
use Rattle.layout.specs.declared.route.RouteClass.TheVariants as class
use Rattle.layout.specs.Kinds.{is_sectioned}
use Rattle.layout.specs.Ports.{at, joined}
use Rattle.layout.specs.Ways.{place, port}

-- The numbers of a list in order, none where there is no list.
abbrev pub numbers : {N : ℕ} → Option (Bounded ℕ N) → List ℕ
numbers list = option_map_or listed list []

-- The elements of a route's path, and of its overlap; none where it has no such field.
abbrev pub path_of : Route → List ℕ
path_of r = numbers r.path

abbrev pub overlap_of : Route → List ℕ
overlap_of r = numbers r.overlap

-- The last signal of a route's path, and the overlap that goes on from it.
abbrev pub way_beyond : Route → List ℕ
way_beyond r = place (path_of r) (length (path_of r) - 1) ∷ overlap_of r

-- The element e stands between the first and the last of a way, at the place suc k.
pub record Between (way : List ℕ) (e k : ℕ) : Type 0 where
  pub is : place way (suc k) ≡ e
  pub within : suc (suc k) < length way

-- A route uses the points, tracks and derailers strictly between the first and the last element of its path.
pub record UsesInPath (es : List Element) (r : Route) (e : ℕ) : Type 0 where
  pub at_place : ℕ
  pub between : Between (path_of r) e at_place
  pub sectioned : is_sectioned (at es e).kind ≡ true

-- It uses the points, tracks and derailers of its overlap, its last element included.
pub record UsesInOverlap (es : List Element) (r : Route) (e : ℕ) : Type 0 where
  pub at_place : ℕ
  pub within : at_place < length (overlap_of r)
  pub is : place (overlap_of r) at_place ≡ e
  pub sectioned : is_sectioned (at es e).kind ≡ true

abbrev pub Uses : List Element → Route → ℕ → Type 0
Uses es r e = UsesInPath es r e ⊎ UsesInOverlap es r e

-- A route uses the sections of the elements that it uses.
abbrev pub UsesSectionInPath : List Element → Route → ℕ → Type 0
UsesSectionInPath es r s = (e : ℕ) × UsesInPath es r e × ((at es e).section ≡ Some s)

abbrev pub UsesSectionInOverlap : List Element → Route → ℕ → Type 0
UsesSectionInOverlap es r s = (e : ℕ) × UsesInOverlap es r e × ((at es e).section ≡ Some s)

abbrev pub UsesSection : List Element → Route → ℕ → Type 0
UsesSection es r s = UsesSectionInPath es r s ⊎ UsesSectionInOverlap es r s

-- A way passes the element at its place suc k by a port: the port is joined to the element before it or after it.
abbrev pub PassesBy : List Element → List ℕ → ℕ → ℕ → Type 0
PassesBy es way k p =
    ((q : ℕ) × (joined es (place way (suc k)) p ≡ Some (port (place way k) q)))
    ⊎ ((q : ℕ) × (joined es (place way (suc k)) p ≡ Some (port (place way (suc (suc k))) q)))

-- Port 1 of a point is its plus leg, port 2 its minus leg.
abbrev pub leg : Position → ℕ
leg position.Plus = 1
leg position.Minus = 2

-- A route passes a point in the position of the leg by which its path, or its overlap beyond the last signal, passes it.
pub record PassesIn (es : List Element) (way : List ℕ) (e : ℕ) (p : Position) : Type 0 where
  pub at_place : ℕ
  pub between : Between way e at_place
  pub point : (at es e).kind ≡ kind.Point
  pub by_leg : PassesBy es way at_place (leg p)

-- The flank of a point that a way passes is its other leg: the one by which the way does not pass.
pub record FlankOf (es : List Element) (way : List ℕ) (e : ℕ) (p : Position) : Type 0 where
  pub at_place : ℕ
  pub between : Between way e at_place
  pub point : (at es e).kind ≡ kind.Point
  pub free : PassesBy es way at_place (leg p) → ⊥

-- How many points that count a walk out of a path may come to: three on a train route, one on a shunting route.
abbrev pub path_reach : RouteClass → ℕ
path_reach class.Train = 3
path_reach class.Shunting = 1

-- The flanks of a route: the leg of a used point that the route does not use, and the reach of the walks that leave it.
pub data Flank (es : List Element) (r : Route) (e : ℕ) (p : Position) : ℕ → Type 0 where
  in_path : FlankOf es (path_of r) e p → Flank es r e p (path_reach r.class)
  in_overlap : FlankOf es (way_beyond r) e p → Flank es r e p 1
