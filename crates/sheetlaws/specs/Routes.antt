-- The routes of a plan and their sheets, by number.
use Rattle.std.specs.Prelude.{◌≡◌, ℕ, ◌<◌, List, length, slice_index_or}
use Rattle.bounded.specs.Lists.{listed}
use Rattle.layout.specs.declared.drawing.Drawing.{Drawing}
use Rattle.layout.specs.declared.element.Element.{Element}
use Rattle.sheets.specs.declared.sheet.RouteSheet.{RouteSheet}
use Rattle.sheets.specs.Sheets.{no_sheet, sheet_of, sheets_of}
use Rattle.plan.specs.Flanks.{route_of}
use Rattle.plan.specs.Sound.{SoundPlan}

-- One statement holds exactly if another does.
abbrev pub Exactly : Type 0 → Type 0 → Type 0
Exactly A B = (A → B) × (B → A)

-- The elements of a plan.
abbrev pub elements_of : Drawing → List Element
elements_of d = listed d.elements

-- The plan has a route with the number i.
abbrev pub HasRoute : Drawing → ℕ → Type 0
HasRoute d i = i < length (listed d.routes)

-- The sheet with the number i.
abbrev pub sheet_at : Drawing → ℕ → RouteSheet
sheet_at d i = slice_index_or (listed (sheets_of d).routes) i no_sheet

-- There are as many sheets as routes, and each route has its own under its number, whatever would be read past the last.
abbrev pub SheetsInOrder : Type 0
SheetsInOrder =
    (d : Drawing) → SoundPlan d
    → (length (listed (sheets_of d).routes) ≡ length (listed d.routes))
    × ((i : ℕ) (past : RouteSheet) → HasRoute d i → slice_index_or (listed (sheets_of d).routes) i past ≡ sheet_of (elements_of d) (route_of d i))
