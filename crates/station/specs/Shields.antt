-- What the protection of a route lists, in the words of the subject.
use Rattle.std.specs.Prelude.{◌≡◌, ℕ, Bool, true}
use Rattle.layout.specs.declared.drawing.Drawing.{Drawing}
use Rattle.layout.specs.declared.position.Position.{Position}
use Rattle.flank.specs.Protection.{branch, branches_of}
use Rattle.walks.specs.Walks.{Requested, EndsOpen}
use Rattle.walks.specs.Exactly.{In}
use Rattle.plan.specs.Flanks.{route_of}
use Rattle.sheetlaws.specs.Routes.{Exactly, elements_of, HasRoute}
use Rattle.acts.specs.Situations.{Situation}
use Rattle.protection.specs.declared.shield.Shield.{Shield}
use Rattle.protection.specs.Shields.{shields_of}
use Rattle.safety.specs.Words.{Holds}

-- An element in a position on the list, held or not.
abbrev pub shield : ℕ → Position → Bool → Shield
shield e p held = record { element = e; position = p; held = held }

-- In every situation the protection of a route lists an element in a position exactly if some walk out of a flank of the route comes to the
-- element as its first able one, with that shielding position; and it lists it as held exactly if the route holds it in that position.
abbrev pub ShieldsExact : Drawing → Type 0
ShieldsExact d =
    (s : Situation) (r : ℕ) → HasRoute d r → (e : ℕ) (p : Position) (held : Bool)
    → Exactly (In (shield e p held) (shields_of (elements_of d) (route_of d r) s.inner r))
    (Requested (elements_of d) (route_of d r) e p × Exactly (held ≡ true) (Holds s r e p))

-- It lists a used point and a last point as an open branch exactly if some walk out of the flank of the one ends open at the other.
abbrev pub OpenBranchesExact : Drawing → Type 0
OpenBranchesExact d =
    (r : ℕ) → HasRoute d r → (u l : ℕ)
    → Exactly (In (branch u l) (branches_of (elements_of d) (route_of d r))) (EndsOpen (elements_of d) (route_of d r) u l)
