-- What the sheets of a plan tell of each number: the kind and section of its element, or those of a track without a section.
use Rattle.std.proofs.Common.{◌≡◌, ℕ, ◌<◌, ◌≤◌, List, get_or, sym, ap, ◌∙◌, ⊎_elim, arith}
use Rattle.std.proofs.lemmas.Bool.{both_ways, cases_lt}
use Rattle.std.proofs.lemmas.List.{get_or_past}
use Rattle.std.proofs.lemmas.List.FromFn.{length-map-range_with_len}
use Rattle.layout.specs.declared.drawing.Drawing.{Drawing}
use Rattle.layout.specs.declared.element.Element.{Element}
use Rattle.layout.specs.Drawings.{no_element}
use Rattle.layout.specs.Ports.{at}
use Rattle.sheets.specs.declared.sheet.ElementSheet.{ElementSheet}
use Rattle.sheets.specs.Reading.{element_of, moves}
use Rattle.sheets.specs.Sheets.{element_sheet, no_element_sheet, element_sheets, sheets_of}
use Rattle.plan.specs.Sound.{SoundPlan}
use Rattle.sheetlaws.specs.Routes.{elements_of}
use Rattle.sheetlaws.proofs.ElementsExact.{elements_exact}
use Rattle.safety.specs.Words.{Moved}
use Rattle.safety.proofs.Passed.{moved_moves}

sheets_past : (es : List Element) (e : ℕ) → 96 ≤ e → get_or (element_sheets es) e no_element_sheet ≡ no_element_sheet
unfolding element_sheets
sheets_past es e past = get_or_past (element_sheets es) e no_element_sheet (omega (arith, length-map-range_with_len (element_sheet es) 0 96))

module _ (d : Drawing) (sound : SoundPlan d) (e : ℕ) where
  none_past : 96 ≤ e → at (elements_of d) e ≡ no_element
  none_past past = let few = sound.few_elements in get_or_past (elements_of d) e no_element (omega arith)

  pub kind_of_each : (element_of (sheets_of d) e).kind ≡ (at (elements_of d) e).kind
  kind_of_each =
      ⊎_elim
      (λ (low : e < 96). (elements_exact d sound e low).0)
      (λ (past : 96 ≤ e).
      ap (λ (s : ElementSheet). s.kind) (sheets_past (elements_of d) e past) ∙ sym (ap (λ (x : Element). x.kind) (none_past past)))
      (cases_lt e 96)

  pub section_of_each : (element_of (sheets_of d) e).section ≡ (at (elements_of d) e).section
  section_of_each =
      ⊎_elim
      (λ (low : e < 96). (elements_exact d sound e low).1)
      (λ (past : 96 ≤ e).
      ap (λ (s : ElementSheet). s.section) (sheets_past (elements_of d) e past) ∙ sym (ap (λ (x : Element). x.section) (none_past past)))
      (cases_lt e 96)

  -- what moves is one of 96
  pub moved_low : Moved (elements_of d) e → e < 96
  moved_low moved =
      ⊎_elim
      (λ (low : e < 96). low)
      (λ (past : 96 ≤ e).
      absurd
      (both_ways (moves (at (elements_of d) e).kind) (ap (λ (x : Element). moves x.kind) (none_past past)) (moved_moves (elements_of d) e moved)))
      (cases_lt e 96)
