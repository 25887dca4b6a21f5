-- The theorem that the sheets tell the kind and the section of each element, and which sections the plan has.
use Rattle.std.specs.Prelude.{◌≡◌, ℕ, ◌<◌, true, false, length, Some, slice_index_or}
use Rattle.layout.specs.declared.drawing.Drawing.{Drawing}
use Rattle.layout.specs.Ports.{at}
use Rattle.sheets.specs.declared.sheet.ElementSheet.{ElementSheet}
use Rattle.sheets.specs.Sheets.{no_element_sheet, sheets_of}
use Rattle.plan.specs.Sound.{SoundPlan}
use Rattle.sheetlaws.specs.Routes.{Exactly, elements_of}

-- The sheet of the element e.
abbrev pub element_sheet_at : Drawing → ℕ → ElementSheet
element_sheet_at d e = slice_index_or (sheets_of d).elements e no_element_sheet

-- The sheet of an element has its kind and its section; where the plan has no such element, it is that of a track without a section.
abbrev pub ElementsExact : Type 0
ElementsExact =
    (d : Drawing) → SoundPlan d → (e : ℕ) → e < 96
    → ((element_sheet_at d e).kind ≡ (at (elements_of d) e).kind) × ((element_sheet_at d e).section ≡ (at (elements_of d) e).section)

-- A section is known exactly if some element of the plan lies in it.
abbrev pub KnownExact : Type 0
KnownExact =
    (d : Drawing) → SoundPlan d → (s : ℕ) → s < 64
    → Exactly (slice_index_or (sheets_of d).known s false ≡ true)
    ((e : ℕ) × (e < length (elements_of d)) × ((at (elements_of d) e).section ≡ Some s))
