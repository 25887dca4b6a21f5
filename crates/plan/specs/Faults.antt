-- What is wrong with a drawing, in the words of the subject, and the theorem that the checks find what comes first of it.
use Rattle.std.specs.Prelude.{◌≡◌, ℕ, ◌<◌, true, ◌≢◌, ◌⊎◌, ◌↔◌, List, length, Some, slice_index_or}
use Rattle.bounded.specs.Lists.{listed}
use Rattle.faults.specs.declared.fault.Fault.{Fault}
use Rattle.faults.specs.declared.fault.Cause.TheVariants as cause
use Rattle.faults.specs.Numbers.{number_of, layer_of}
use Rattle.layout.specs.declared.drawing.Drawing.{Drawing}
use Rattle.layout.specs.declared.element.Element.{Element}
use Rattle.layout.specs.declared.element.Join.{Join}
use Rattle.layout.specs.declared.kind.Marks.{Marks}
use Rattle.layout.specs.declared.kind.Sort.TheVariants as sort
use Rattle.layout.specs.declared.position.Position.TheVariants as position
use Rattle.layout.specs.declared.route.Route.{Route}
use Rattle.layout.specs.Drawings.{no_route}
use Rattle.layout.specs.Kinds.{ports}
use Rattle.layout.specs.Ports.{at, joined}
use Rattle.layout.specs.Sound.{HasItsFields}
use Rattle.layout.specs.Ways.{port}
use Rattle.paths.specs.Sound.{HasSoundPath, AllowedOverlap}
use Rattle.walks.specs.Walks.{Requested}
use Rattle.planbytes.specs.Bytes.{fault}
use Rattle.plan.specs.Checks.{drawing_fault}

-- A join of the element e is sound: it goes to a port that another element of the plan has, which is joined back.
pub record SoundJoin (es : List Element) (e p : ℕ) (j : Join) : Type 0 where
  pub known : j.element < length es
  pub has_port : j.port < ports (at es j.element).kind
  pub elsewhere : j.element ≢ e
  pub back : joined es j.element j.port ≡ Some (port e p)

-- The joins of the element e are sound, and no two go to one element.
pub record SoundJoins (es : List Element) (e : ℕ) : Type 0 where
  pub each : (p : ℕ) (j : Join) → joined es e p ≡ Some j → SoundJoin es e p j
  pub once : (p q : ℕ) (j k : Join) → joined es e p ≡ Some j → joined es e q ≡ Some k → j.element ≡ k.element → p ≡ q

-- What is wrong with elements and routes, and where: an element has not the fields of its kind, or not sound joins, or is an entry signal that
-- is marked as requested at a flank; a route has no sound path, or no allowed overlap, or requests an element both ways.
pub data Wrong (es : List Element) (rs : List Route) : Fault → Type 0 where
  wrong_fields : {e : ℕ} → e < length es → (HasItsFields (at es e) → ⊥) → Wrong es rs (fault cause.Fields e)
  wrong_joins : {e : ℕ} → e < length es → (SoundJoins es e → ⊥) → Wrong es rs (fault cause.Join e)
  wrong_entry : {e : ℕ} → e < length es → (m : Marks) → (at es e).sort ≡ Some sort.Entry → (at es e).marks ≡ Some m → m.requested ≡ true
      → Wrong es rs (fault cause.EntryMarked e)
  wrong_path : {i : ℕ} → i < length rs → (HasSoundPath es (slice_index_or rs i no_route) → ⊥) → Wrong es rs (fault cause.Path i)
  wrong_overlap : {i : ℕ} → i < length rs → (AllowedOverlap es (slice_index_or rs i no_route) → ⊥) → Wrong es rs (fault cause.Overlap i)
  wrong_both_ways : {i : ℕ} → i < length rs → (e : ℕ) → Requested es (slice_index_or rs i no_route) e position.Plus
      → Requested es (slice_index_or rs i no_route) e position.Minus → Wrong es rs (fault cause.BothWays i)

-- By the first number, and where that is the same by the second.
abbrev pub Ordered : ℕ × ℕ → ℕ × ℕ → Type 0
Ordered a b = (a.0 < b.0) ⊎ ((a.0 ≡ b.0) × (a.1 < b.1))

-- A fault comes before another: layer 2 before 3; in layer 2 by number and then by place, in layer 3 by place and then by number.
pub data Before (a b : Fault) : Type 0 where
  by_layer : layer_of a.cause < layer_of b.cause → Before a b
  in_elements : layer_of a.cause ≡ 2 → layer_of b.cause ≡ 2 → Ordered (number_of a.cause, a.place) (number_of b.cause, b.place) → Before a b
  in_routes : layer_of a.cause ≡ 3 → layer_of b.cause ≡ 3 → Ordered (a.place, number_of a.cause) (b.place, number_of b.cause) → Before a b

-- A fault comes first: it is wrong, and comes before all else that is wrong.
abbrev pub ComesFirst : List Element → List Route → Fault → Type 0
ComesFirst es rs f = Wrong es rs f × ((g : Fault) → Wrong es rs g → (f ≡ g) ⊎ Before f g)

-- The checks find a fault exactly if it comes first.
abbrev pub FaultsExact : Type 0
FaultsExact = (d : Drawing) (f : Fault) → (drawing_fault d ≡ Some f) ↔ ComesFirst (listed d.elements) (listed d.routes) f
