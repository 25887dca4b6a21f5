-- A turn and the end of the loop that makes the sheets of routes, one after another.
use Rattle.std.proofs.Common.{◌≡◌, ℕ, ◌+◌, ◌<◌, ◌≤◌, List, length, get_or, drop}
use Rattle.std.proofs.lemmas.List.{at_drop_more, at_drop_all}
use Rattle.bounded.specs.declared.bounded.Bounded.{Bounded}
use Rattle.bounded.specs.Lists.{pushed}
use Rattle.layout.specs.declared.element.Element.{Element}
use Rattle.layout.specs.declared.route.Route.{Route}
use Rattle.sheets.specs.declared.sheet.RouteSheet.{RouteSheet}
use Rattle.sheets.specs.Sheets.{sheet_of, with_sheets}

module _ (es : List Element) (rs : List Route) (b : Bounded RouteSheet 64) (i : ℕ) where
  pub sheets_more : (none : Route) → i < length rs → with_sheets es (drop i rs) b ≡ with_sheets es (drop (i + 1) rs) (pushed b (sheet_of es (get_or rs i none)))
  sheets_more none inside = at_drop_more (λ (l : List Route). with_sheets es l b) rs i none inside

  pub sheets_all : length rs ≤ i → with_sheets es (drop i rs) b ≡ b
  sheets_all past = at_drop_all (λ (l : List Route). with_sheets es l b) rs i past
