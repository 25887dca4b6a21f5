-- How a way over elements runs, in the words of the subject.
use Rattle.std.specs.Prelude.{◌≡◌, ℕ, suc, ◌-◌, ◌<◌, ◌≢◌, ◌⊎◌, List, length, take, drop, Some, slice_index}
use Rattle.layout.specs.declared.element.Element.{Element}
use Rattle.layout.specs.declared.element.Join.{Join}
use Rattle.layout.specs.declared.kind.Kind.{Kind}
use Rattle.layout.specs.declared.kind.Kind.TheVariants as kind
use Rattle.layout.specs.Ports.{at, joined}

-- A port of an element.
abbrev pub port : ℕ → ℕ → Join
port e p = record { element = e; port = p }

-- The element at a place of a way, places counted from 0.
abbrev pub place : List ℕ → ℕ → ℕ
place way k = slice_index way k

-- The elements strictly between the first and the last of a way.
abbrev pub inner : List ℕ → List ℕ
inner way = take (length way - 1 - 1) (drop 1 way)

-- The kind of the element at a place of a way.
abbrev pub kind_at : List Element → List ℕ → ℕ → Kind
kind_at es way k = (at es (place way k)).kind

-- An element is entered and left at different ports, and at a point one of the two is the toe.
abbrev pub Turns : Kind → ℕ → ℕ → Type 0
Turns k entered left = (left ≢ entered) × (k ≡ kind.Point → (entered ≡ 0) ⊎ (left ≡ 0))

-- A way runs when its neighbours are joined, and each element between its first and its last is passed soundly.
-- It enters the place k at the port `enters k`, and leaves it by the port `leaves k`.
pub record Runs (es : List Element) (way : List ℕ) : Type 0 where
  pub enters : ℕ → ℕ
  pub leaves : ℕ → ℕ
  pub joins : (k : ℕ) → suc k < length way → joined es (place way k) (leaves k) ≡ Some (port (place way (suc k)) (enters (suc k)))
  pub turns : (k : ℕ) → 0 < k → suc k < length way → Turns (kind_at es way k) (enters k) (leaves k)
