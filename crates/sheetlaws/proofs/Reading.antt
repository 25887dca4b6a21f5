-- The sheets of routes stand in the order of the routes.
use Rattle.std.proofs.Common.{◌≡◌, ℕ, suc, ◌+◌, ◌<◌, ◌≤◌, min, List, [], ◌∷◌, ◌++◌, map, length, get_or, set, sym, ap, ◌∙◌, append_assoc, append-nil, arith, length-set, take-suc-set}
use lib.ListN.{length-replicate, length-map}
use Rattle.std.proofs.lemmas.List.{get_or-map}
use Rattle.std.proofs.lemmas.Bool.{cond-true, lt-ltb}
use Rattle.bounded.specs.declared.bounded.Bounded.{Bounded}
use Rattle.bounded.specs.Lists.{listed, blanks, empty_of, pushed}
use Rattle.layout.specs.declared.element.Element.{Element}
use Rattle.layout.specs.declared.route.Route.{Route}
use Rattle.layout.specs.Drawings.{no_route}
use Rattle.sheets.specs.declared.sheet.RouteSheet.{RouteSheet}
use Rattle.sheets.specs.Sheets.{sheet_of, no_sheet, with_sheets, route_sheets}
use Rattle.sheetlaws.specs.Routes.{SheetsInOrder}

-- one item more in a bounded list that is not full
module _ {X : Type 0} {N : ℕ} (b : Bounded X N) (x : X) (room : b.count < N) where
  pub pushed_is : pushed b x ≡ record { count = b.count + 1; places = set b.places b.count x }
  pushed_is = cond-true _ _ _ (lt-ltb b.count N room)

  pub pushed_count : (pushed b x).count ≡ b.count + 1
  pushed_count = ap (λ (c : Bounded X N). c.count) pushed_is

  pub pushed_size : length b.places ≡ N → length (pushed b x).places ≡ N
  pushed_size l = ap (λ (c : Bounded X N). length c.places) pushed_is ∙ (length-set b.places b.count x ∙ l)

  pub pushed_listed : length b.places ≡ N → listed (pushed b x) ≡ listed b ++ (x ∷ [])
  pushed_listed l =
      let before : min b.count N ≡ b.count = omega arith in
      let after : min (b.count + 1) N ≡ suc b.count = omega arith in
      ap (λ (c : Bounded X N). listed c) pushed_is ∙ rw (before, after) (take-suc-set b.places b.count x (omega arith))

module _ (es : List Element) where
  with_listed : (rs : List Route) (b : Bounded RouteSheet 64) → length b.places ≡ 64 → b.count + length rs ≤ 64
      → listed (with_sheets es rs b) ≡ listed b ++ map (sheet_of es) rs
  with_listed [] b l h = sym (append-nil (listed b))
  with_listed (r ∷ rs) b l h =
      let room : b.count < 64 = omega arith in
      with_listed rs (pushed b (sheet_of es r)) (pushed_size b (sheet_of es r) room l) (omega (arith, pushed_count b (sheet_of es r) room))
      ∙ (ap (λ (xs : List RouteSheet). xs ++ map (sheet_of es) rs) (pushed_listed b (sheet_of es r) room l)
      ∙ append_assoc (listed b) (sheet_of es r ∷ []) (map (sheet_of es) rs))

  routes_listed : (rs : List Route) → length rs ≤ 64 → listed (route_sheets es rs) ≡ map (sheet_of es) rs
  unfolding route_sheets blanks
  routes_listed rs h = with_listed rs (empty_of no_sheet) (length-replicate 64 no_sheet) (omega arith)

pub sheets_in_order : SheetsInOrder
sheets_in_order d s =
    let es : List Element = listed d.elements in
    let rs : List Route = listed d.routes in
    let all : listed (route_sheets es rs) ≡ map (sheet_of es) rs = routes_listed es rs s.few_routes in (
      ap length all ∙ length-map rs (sheet_of es),
      λ i past h. ap (λ (xs : List RouteSheet). get_or xs i past) all ∙ get_or-map (sheet_of es) rs i no_route past h,
    )
