-- The theorems that the search of a route finds exactly what the walks out of its flanks come to.
use Rattle.std.specs.Prelude.{◌≡◌, ℕ, suc, ◌<◌, ◌≤◌, Bool, true, false, ◌≢◌, ◌⊎◌, ◌↔◌, List, [], ◌∷◌, length, Some, slice_index_or}
use Rattle.std.specs.List.{AllPairs}
use Rattle.layout.specs.declared.element.Element.{Element}
use Rattle.layout.specs.declared.position.Position.{Position}
use Rattle.layout.specs.declared.position.Position.TheVariants as position
use Rattle.layout.specs.declared.route.Route.{Route}
use Rattle.layout.specs.declared.kind.Kind.TheVariants as kind
use Rattle.layout.specs.Kinds.{ports}
use Rattle.layout.specs.Ports.{at}
use Rattle.layout.specs.Ways.{port}
use Rattle.layout.specs.Sound.{SoundElements}
use Rattle.layout.specs.Uses.{Uses, Flank}
use Rattle.paths.specs.Sound.{HasSoundPath, AllowedOverlap}
use Rattle.flank.specs.declared.answers.Request.{Request}
use Rattle.flank.specs.declared.answers.Branch.{Branch}
use Rattle.flank.specs.Signals.{far_end, passes, along, signal_ports}
use Rattle.flank.specs.Used.{used_table}
use Rattle.flank.specs.Flanks.{flank_of}
use Rattle.flank.specs.Protection.{request, branch, requests_of, branches_of}
use Rattle.walks.specs.Walks.{Requested, EndsOpen}

-- An item stands in a list.
abbrev pub In : {A : Type 0} → A → List A → Type 0
In a [] = ⊥
In a (x ∷ xs) = (x ≡ a) ⊎ In a xs

-- No chain of signals is cut short: from any port of an element that is no signal, the search comes to a port that it does not pass.
abbrev pub ChainsEnd : Type 0
ChainsEnd =
    (es : List Element) → SoundElements es → length es ≤ 96
    → (able_too : Bool) (e p : ℕ) → e < length es → p < ports (at es e).kind → (at es e).kind ≢ kind.Signal
    → passes able_too es (along able_too es signal_ports (far_end es (port e p))) ≡ false

-- The table of used elements has exactly those that the route uses.
abbrev pub UsedExact : Type 0
UsedExact =
    (es : List Element) (r : Route) → SoundElements es → length es ≤ 96 → HasSoundPath es r → AllowedOverlap es r
    → (e : ℕ) → (slice_index_or (used_table es r) e false ≡ true) ↔ Uses es r e

-- The search leaves an element by a leg, and may pass n points that count, exactly if that leg is a flank of the route
-- and the reach of the walks out of it is one more.
abbrev pub FlanksExact : Type 0
FlanksExact =
    (es : List Element) (r : Route) → SoundElements es → length es ≤ 96 → HasSoundPath es r → AllowedOverlap es r
    → (e n : ℕ) (p : Position) → (flank_of es r e ≡ Some (record { leg = p; spare = n })) ↔ Flank es r e p (suc n)

-- An element is requested in a position exactly if some walk out of some flank of the route comes to it as its first able element,
-- with that shielding position.
abbrev pub RequestsExact : Type 0
RequestsExact =
    (es : List Element) (r : Route) → SoundElements es → length es ≤ 96 → HasSoundPath es r → AllowedOverlap es r
    → (e : ℕ) (p : Position) → Requested es r e p ↔ In (request e p) (requests_of es r)

-- A used point and a last point are an open branch exactly if some walk out of the flank of the one ends open at the other.
abbrev pub BranchesExact : Type 0
BranchesExact =
    (es : List Element) (r : Route) → SoundElements es → length es ≤ 96 → HasSoundPath es r → AllowedOverlap es r
    → (u l : ℕ) → EndsOpen es r u l ↔ In (branch u l) (branches_of es r)

-- A request comes before another: it is of an element with a lower number, or of the same element, and asks for plus where the other asks for minus.
pub data RequestBefore (a b : Request) : Type 0 where
  lower_element : a.element < b.element → RequestBefore a b
  plus_first : a.element ≡ b.element → a.position ≡ position.Plus → b.position ≡ position.Minus → RequestBefore a b

-- The requests of a route stand in this order, so each stands once.
abbrev pub RequestsAscend : Type 0
RequestsAscend = (es : List Element) (r : Route) → AllPairs RequestBefore (requests_of es r)

-- An open branch comes before another: its used point has a lower number, or the same one, and its last point has a lower number.
pub data BranchBefore (a b : Branch) : Type 0 where
  lower_used : a.from < b.from → BranchBefore a b
  lower_last : a.from ≡ b.from → a.last < b.last → BranchBefore a b

-- The open branches of a route stand in this order, so each stands once.
abbrev pub BranchesAscend : Type 0
BranchesAscend = (es : List Element) (r : Route) → AllPairs BranchBefore (branches_of es r)
