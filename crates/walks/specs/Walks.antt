-- Walks out of the flanks of a route, in the words of the subject.
use Rattle.std.specs.Prelude.{◌≡◌, ℕ, suc, ◌-◌, ◌<◌, true, ◌≢◌, List, Some, None, Option}
use Rattle.layout.specs.declared.element.Element.{Element}
use Rattle.layout.specs.declared.element.Join.{Join}
use Rattle.layout.specs.declared.kind.Kind.{Kind}
use Rattle.layout.specs.declared.kind.Kind.TheVariants as kind
use Rattle.layout.specs.declared.kind.Dual.{Dual}
use Rattle.layout.specs.declared.kind.Dual.TheVariants as dual
use Rattle.layout.specs.declared.kind.Marks.{Marks}
use Rattle.layout.specs.declared.position.Position.{Position}
use Rattle.layout.specs.declared.position.Position.TheVariants as position
use Rattle.layout.specs.declared.route.Route.{Route}
use Rattle.layout.specs.Ports.{at, joined}
use Rattle.layout.specs.Positions.{other}
use Rattle.layout.specs.Uses.{Uses, leg, Flank}

-- A walk meets elements at ports. What it meets at a port is of a kind.
abbrev pub Is : Kind → List Element → Join → Type 0
Is k es q = (at es q.element).kind ≡ k

-- Passing a signal to its other port leads to the port that this one is joined to; a signal has the ports 0 and 1.
abbrev pub LeadsPast : List Element → Join → Join → Type 0
LeadsPast es q next = joined es q.element (1 - q.port) ≡ Some next

-- The first port from q on, all signals left out.
pub data Beyond (es : List Element) : Join → Join → Type 0 where
  here : {q : Join} → (Is kind.Signal es q → ⊥) → Beyond es q q
  past : {q next r : Join} → Is kind.Signal es q → LeadsPast es q next → Beyond es next r → Beyond es q r

-- The first element beyond the toe of the point e, signals left out, is used by the route.
pub record Behind (es : List Element) (r : Route) (e : ℕ) : Type 0 where
  pub next : Join
  pub first : Join
  pub toe : joined es e 0 ≡ Some next
  pub beyond : Beyond es next first
  pub uses : Uses es r first.element

-- A point without the dual field may shield in both positions, one with it only in the position that it prefers.
pub data Prefers : Option Dual → Position → Type 0 where
  both : {p : Position} → Prefers None p
  plus : Prefers (Some dual.PrefersPlus) position.Plus
  minus : Prefers (Some dual.PrefersMinus) position.Minus

-- A signal is marked as requested at a flank.
abbrev pub Marked : Element → Type 0
Marked e = (m : Marks) × (e.marks ≡ Some m) × (m.requested ≡ true)

-- What is met at the port q, if the route does not use it, is able to shield in a position: a derailer in plus; a marked signal met at its front in plus;
-- a point met at a leg in the position of its other leg, where it may, unless the route lies beyond its toe.
pub data Able (es : List Element) (r : Route) (q : Join) : Position → Type 0 where
  derailer : Is kind.Derailer es q → Able es r q position.Plus
  signal : Is kind.Signal es q → Marked (at es q.element) → q.port ≡ 1 → Able es r q position.Plus
  point : (p : Position) → Is kind.Point es q → q.port ≡ leg (other p) → Prefers (at es q.element).dual p
      → (Behind es r q.element → ⊥) → Able es r q p

-- A point met at the port q counts: it is not used and not able, and where it is met at a leg the route does not lie beyond its toe.
pub record Counts (es : List Element) (r : Route) (q : Join) : Type 0 where
  pub is_point : Is kind.Point es q
  pub unused : Uses es r q.element → ⊥
  pub clear : q.port ≢ 0 → Behind es r q.element → ⊥
  pub unable : (p : Position) → Able es r q p → ⊥

-- A walk out of a leg of the point u comes to a port, with so many points counted before it.
-- It leaves through the join of the leg; it passes a signal that is not able to its other port;
-- while its count stays below the reach, it passes a point met at the toe by either leg, and a point met at a leg and not able by its toe.
pub data Walk (es : List Element) (r : Route) (u : ℕ) (side : Position) (reach : ℕ) : ℕ → Join → Type 0 where
  leaves : {q : Join} → joined es u (leg side) ≡ Some q → Walk es r u side reach 0 q
  passes_signal : {n : ℕ} {q next : Join} → Walk es r u side reach n q → Is kind.Signal es q → (Able es r q position.Plus → ⊥)
      → LeadsPast es q next → Walk es r u side reach n next
  passes_by_leg : {n : ℕ} {q next : Join} → Walk es r u side reach n q → Counts es r q → q.port ≡ 0 → suc n < reach
      → (p : Position) → joined es q.element (leg p) ≡ Some next → Walk es r u side reach (suc n) next
  passes_by_toe : {n : ℕ} {q next : Join} → Walk es r u side reach n q → Counts es r q → q.port ≢ 0 → suc n < reach
      → joined es q.element 0 ≡ Some next → Walk es r u side reach (suc n) next

-- Some walk out of some flank of the route comes to the element e as its first able element, with the shielding position p.
pub record Requested (es : List Element) (r : Route) (e : ℕ) (p : Position) : Type 0 where
  pub used_point : ℕ
  pub side : Position
  pub reach : ℕ
  pub flank : Flank es r used_point side reach
  pub count : ℕ
  pub at_port : Join
  pub comes : Walk es r used_point side reach count at_port
  pub unused : Uses es r at_port.element → ⊥
  pub able : Able es r at_port p
  pub is : at_port.element ≡ e

-- Some walk out of the flank of the used point u ends open at the point l: there its count comes to the reach.
pub record EndsOpen (es : List Element) (r : Route) (u l : ℕ) : Type 0 where
  pub side : Position
  pub reach : ℕ
  pub flank : Flank es r u side reach
  pub count : ℕ
  pub at_port : Join
  pub comes : Walk es r u side reach count at_port
  pub counts : Counts es r at_port
  pub full : suc count ≡ reach
  pub is : at_port.element ≡ l
