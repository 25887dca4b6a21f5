use Rattle.plan.proofs.PlansExact.{plan_is_sound}
use Rattle.sheetlaws.proofs.Reading.{sheets_in_order}
use Rattle.sheetlaws.proofs.SectionsExact.{sections_exact, sections_in_range}
use Rattle.sheetlaws.proofs.ElementsExact.{elements_exact, known_exact}
use Rattle.sheetlaws.proofs.EndsExact.{ends_exact, showing_exact}
use Rattle.sheetlaws.proofs.RequestsExact.{sheet_requests_exact}
use Rattle.sheetlaws.proofs.NeedsExact.{needs_exact}
use Rattle.sheetlaws.proofs.OneStart.{one_start}
use Rattle.sheetlaws.proofs.ListsExact.{wanted_exact, used_exact, lists_ascend}
use Rattle.sheetlaws.proofs.Concerned.{wanted_in_words, used_in_words}
use Rattle.sheetlaws.proofs.sheets_are_exact.Goals as goal

pub returns : goal.returns
returns c = record {
  sheets = c.sheets.ensures;
  sound = plan_is_sound c.args.plan.now;
  order = sheets_in_order;
  sections = sections_exact;
  range = sections_in_range;
  elements = elements_exact;
  known = known_exact;
  ends = ends_exact;
  showing = showing_exact;
  requests = sheet_requests_exact;
  needs = needs_exact;
  starts = one_start;
  wanted = wanted_in_words;
  used = used_in_words;
  wanted_listed = wanted_exact;
  used_listed = used_exact;
  ascending = lists_ascend;
}
