-- The sheets tell the kind and the section of each element, and exactly the sections in which some element of the plan lies.
use Rattle.std.proofs.Common.{◌≡◌, ℕ, ◌<◌, false, List, get_or, sym, ap, ◌∙◌, arith}
use Rattle.std.proofs.lemmas.List.FromFn.{get_or-map-range_with_len}
use Rattle.layout.specs.declared.element.Element.{Element}
use Rattle.sheets.specs.declared.sheet.ElementSheet.{ElementSheet}
use Rattle.sheets.specs.Sections.{is_known, known_of}
use Rattle.sheets.specs.Sheets.{element_sheet, no_element_sheet, element_sheets}
use Rattle.sheetlaws.specs.Routes.{elements_of}
use Rattle.sheetlaws.specs.Elements.{ElementsExact, KnownExact}
use Rattle.sheetlaws.proofs.Places.{known_sound, known_from}

element_at : (es : List Element) (e : ℕ) → e < 96 → get_or (element_sheets es) e no_element_sheet ≡ element_sheet es e
unfolding element_sheets
element_at es e h = get_or-map-range_with_len (element_sheet es) 0 96 e e no_element_sheet h (omega arith)

known_at : (es : List Element) (s : ℕ) → s < 64 → get_or (known_of es) s false ≡ is_known es s
unfolding known_of
known_at es s h = get_or-map-range_with_len (is_known es) 0 64 s s false h (omega arith)

pub elements_exact : ElementsExact
elements_exact d p e h =
    let is : get_or (element_sheets (elements_of d)) e no_element_sheet ≡ element_sheet (elements_of d) e
    = element_at (elements_of d) e h in
    (ap (λ (a : ElementSheet). a.kind) is, ap (λ (a : ElementSheet). a.section) is)

pub known_exact : KnownExact
known_exact d p s h =
    let es : List Element = elements_of d in
    ((λ t. known_sound es s (sym (known_at es s h) ∙ t)), (λ x. known_at es s h ∙ known_from es s x.0 x.1 x.2))
