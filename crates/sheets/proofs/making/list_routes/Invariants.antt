use Rattle.std.proofs.Common.{◌≡◌, drop}
use Rattle.bounded.specs.Lists.{empty_of}
use Rattle.sheets.specs.Sheets.{no_sheet, with_sheets}
use Rattle.sheets.proofs.making.list_routes.Given as goal

abbrev pub invariant-loop-route : goal.invariant-loop-route
invariant-loop-route l = with_sheets l.elements l.routes (empty_of no_sheet) ≡ with_sheets l.elements (drop l.route-index l.routes) l.sheets
