-- The sections that a route uses, and those of the plan.
use Rattle.std.specs.Prelude.{ℕ, Bool, false, List, map, Some, nat_eq}
use Rattle.std.specs.Option.{option_eq}
use Rattle.std.specs.List.{list_any, range_with_len}
use Rattle.layout.specs.declared.element.Element.{Element}
use Rattle.layout.specs.declared.route.Route.{Route}
use Rattle.layout.specs.Ports.{at}
use Rattle.layout.specs.Ways.{inner}
use Rattle.layout.specs.Uses.{path_of, overlap_of}
use Rattle.sheets.specs.declared.sheet.SectionUse.{SectionUse}

-- An element lies in a section.
abbrev pub lies_in : Element → ℕ → Bool
lies_in e s = option_eq nat_eq e.section (Some s)

-- Some element of a way lies in a section.
unfoldable pub is_on_way : List Element → List ℕ → ℕ → Bool
is_on_way es way s = list_any (λ e. lies_in (at es e) s) way

-- A route uses a section in its path if an element strictly between the first and the last lies in it, in its overlap if any element does.
abbrev pub section_use : List Element → Route → ℕ → SectionUse
section_use es r s = record { path = is_on_way es (inner (path_of r)) s; overlap = is_on_way es (overlap_of r) s }

abbrev pub no_use : SectionUse
no_use = record { path = false; overlap = false }

-- What a route uses, by section.
unfoldable pub sections_of : List Element → Route → List SectionUse
sections_of es r = map (section_use es r) (range_with_len 0 64)

-- Some element of the plan lies in a section.
unfoldable pub is_known : List Element → ℕ → Bool
is_known es s = list_any (λ e. lies_in e s) es

-- The sections of the plan.
unfoldable pub known_of : List Element → List Bool
known_of es = map (is_known es) (range_with_len 0 64)
