use Rattle.std.proofs.Common.{rules}
use Rattle.sheets.specs.Sheets.{element_sheet, no_element_sheet, element_sheets}
use Rattle.sheets.proofs.Filling.{filled}
use Rattle.sheets.proofs.making.element_sheets.Goals as goal

pub returns : goal.returns
unfolding element_sheets
returns c = filled _ _ (element_sheet c.args.elements.now) 96 no_element_sheet _ c.from_fn.ensures.items (λ k x q h call. search rules)
