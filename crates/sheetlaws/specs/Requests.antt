-- The theorem that the sheets tell what a route requests.
use Rattle.std.specs.Prelude.{◌≡◌, ℕ, ◌<◌, Some, slice_index_or}
use Rattle.layout.specs.declared.drawing.Drawing.{Drawing}
use Rattle.layout.specs.declared.position.Position.{Position}
use Rattle.walks.specs.Walks.{Requested}
use Rattle.sheets.specs.declared.sheet.Want.{Want}
use Rattle.sheets.specs.Wants.{no_want}
use Rattle.plan.specs.Flanks.{route_of}
use Rattle.plan.specs.Sound.{SoundPlan}
use Rattle.sheetlaws.specs.Routes.{Exactly, elements_of, HasRoute, sheet_at}

-- What the sheet of the route i says of the element e.
abbrev pub want_of : Drawing → ℕ → ℕ → Want
want_of d i e = slice_index_or (sheet_at d i).wants e no_want

-- The sheet of a route requests an element in a position exactly if some walk out of some flank of the route comes to it
-- as its first able element, with that shielding position.
abbrev pub SheetRequestsExact : Type 0
SheetRequestsExact =
    (d : Drawing) → SoundPlan d → (i : ℕ) → HasRoute d i → (e : ℕ) → e < 96 → (p : Position)
    → Exactly ((want_of d i e).request ≡ Some p) (Requested (elements_of d) (route_of d i) e p)
