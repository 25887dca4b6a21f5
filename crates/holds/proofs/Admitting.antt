-- All sheets of a plan with their numbers admit a route where every route of the plan does.
use Rattle.std.proofs.Common.{◌≡◌, ℕ, refl}
use Rattle.bounded.specs.Lists.{listed}
use Rattle.sheets.specs.declared.sheet.RouteSheet.{RouteSheet}
use Rattle.sheets.specs.declared.sheet.Sheets.{Sheets}
use Rattle.sheets.specs.Reading.{route_count, route_sheet, past_the_end}
use Rattle.holds.specs.declared.interlocking.Interlocking.{Interlocking}
use Rattle.holds.specs.Refusing.{admits, all_admit}
use Rattle.layout.specs.Every.{every}
use Rattle.layout.proofs.EveryList.{all_places}

pub all_admit_numbered : (t : Sheets) (s : RouteSheet) (i : Interlocking)
    → all_admit t s i ≡ every (λ q. admits s i q (route_sheet t q)) (route_count t) 0
all_admit_numbered t s i =
    all_places (λ (p : ℕ × RouteSheet). admits s i p.0 p.1) (λ q. admits s i q (route_sheet t q)) (listed t.routes) past_the_end (λ k h. refl)
