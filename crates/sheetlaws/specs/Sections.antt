-- The theorem that the sheets tell which sections a route uses.
use Rattle.std.specs.Prelude.{◌≡◌, ℕ, ◌<◌, true, slice_index_or}
use Rattle.layout.specs.declared.drawing.Drawing.{Drawing}
use Rattle.layout.specs.Uses.{UsesSectionInPath, UsesSectionInOverlap, UsesSection}
use Rattle.sheets.specs.declared.sheet.SectionUse.{SectionUse}
use Rattle.sheets.specs.Sections.{no_use}
use Rattle.plan.specs.Flanks.{route_of}
use Rattle.plan.specs.Sound.{SoundPlan}
use Rattle.sheetlaws.specs.Routes.{Exactly, elements_of, HasRoute, sheet_at}

-- What the sheet of the route i says of the section s.
abbrev pub use_of : Drawing → ℕ → ℕ → SectionUse
use_of d i s = slice_index_or (sheet_at d i).sections s no_use

-- The sheet of a route has a section as used in the path exactly if the route uses it in its path,
-- and as used in the overlap exactly if the route uses it in its overlap.
abbrev pub SectionsExact : Type 0
SectionsExact =
    (d : Drawing) → SoundPlan d → (i : ℕ) → HasRoute d i → (s : ℕ) → s < 64
    → Exactly ((use_of d i s).path ≡ true) (UsesSectionInPath (elements_of d) (route_of d i) s)
    × Exactly ((use_of d i s).overlap ≡ true) (UsesSectionInOverlap (elements_of d) (route_of d i) s)

-- The sections that a route uses are numbered 0 to 63.
abbrev pub SectionsInRange : Type 0
SectionsInRange =
    (d : Drawing) → SoundPlan d → (i : ℕ) → HasRoute d i → (s : ℕ) → UsesSection (elements_of d) (route_of d i) s → s < 64
