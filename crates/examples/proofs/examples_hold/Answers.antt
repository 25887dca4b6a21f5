use Rattle.std.proofs.Common.{refl}
use Rattle.bounded.specs.Lists.{blanks}
use Rattle.flank.specs.Flanks.{flank_in, flank_over}
use Rattle.flank.specs.Protection.{no_marks, marks_below, requests_in, branches_in, branches_below}
use Rattle.flank.specs.Search.{found, marks}
use Rattle.flank.specs.Signals.{along}
use Rattle.flank.specs.Used.{with_used, used_table}
use Rattle.paths.specs.Following.{step}
use Rattle.paths.specs.Places.{lacks, are_within, are_new, are_signals_between}
use Rattle.bits.specs.Bits.{bit}
use Rattle.plan.specs.RequestTests.{asks_both_ways}
use Rattle.plan.specs.Checks.{elements_fault, routes_fault}
use Rattle.plan.specs.Plans.{reading}
use Rattle.sheets.specs.Lists.{numbers_where}
use Rattle.sheets.specs.Sections.{is_on_way, sections_of, is_known, known_of}
use Rattle.sheets.specs.Sheets.{sheet_of, no_sheet, element_sheets, route_sheets}
use Rattle.sheets.specs.Wants.{want_at, wants_of}
use Rattle.holds.specs.Interlockings.{idle}
use Rattle.holds.specs.Aspects.{aspect_upto}
use Rattle.holds.specs.Granting.{taken_out}
use Rattle.readiness.specs.Settling.{pass, passes_until}
use Rattle.acts.specs.Orders.{sent, orders}
use Rattle.station.specs.Runs.{answered}
use Rattle.examples.specs.Worked.{WorkedExamples}
use Rattle.examples.proofs.examples_hold.Goals as goal

holds : WorkedExamples
unfolding answered orders blanks step lacks are_within are_new are_signals_between bit elements_fault routes_fault reading asks_both_ways flank_in flank_over no_marks marks_below requests_in branches_in branches_below found marks along with_used used_table numbers_where is_on_way sections_of is_known known_of sheet_of no_sheet element_sheets route_sheets want_at wants_of idle aspect_upto taken_out pass passes_until sent
holds = ((refl, refl, refl, refl, refl), (refl, refl, refl), (refl, refl, refl, refl, refl, refl, refl, refl, refl, refl, refl, refl, refl, refl), (refl, refl, refl, refl, refl, refl, refl, refl, refl), (refl, refl, refl, refl, refl, refl, refl, refl))

pub returns : goal.returns
returns c = holds
