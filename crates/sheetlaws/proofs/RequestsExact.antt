-- The sheet of a route tells exactly the elements that walks out of its flanks come to, with their positions.
use Rattle.std.proofs.Common.{◌≡◌, ℕ, ◌<◌, Bool, true, false, cond, List, get_or, Some, None, sym, refl, ap, ◌∙◌, arith}
use Rattle.std.proofs.lemmas.List.FromFn.{get_or-map-range_with_len}
use Rattle.layout.specs.declared.drawing.Drawing.{Drawing}
use Rattle.layout.specs.declared.element.Element.{Element}
use Rattle.layout.specs.declared.position.Position.{Position}
use Rattle.layout.specs.declared.position.Position.TheVariants as position
use Rattle.layout.specs.declared.route.Route.{Route}
use Rattle.flank.specs.declared.answers.Mark.{Mark}
use Rattle.flank.specs.Search.{shield, unmarked}
use Rattle.flank.specs.Protection.{route_marks}
use Rattle.walks.specs.Walks.{Requested}
use Rattle.walks.proofs.Tables.{Has, in_requests, requests_have}
use Rattle.walks.proofs.Exactly.{requests_exact}
use Rattle.sheets.specs.declared.sheet.RouteSheet.{RouteSheet}
use Rattle.sheets.specs.declared.sheet.Want.{Want}
use Rattle.sheets.specs.Wants.{requested, want_at, no_want, wants_of}
use Rattle.sheets.specs.Sheets.{no_sheet, sheet_of}
use Rattle.plan.specs.Flanks.{route_of}
use Rattle.plan.specs.Sound.{SoundPlan}
use Rattle.sheetlaws.specs.Routes.{HasRoute, elements_of}
use Rattle.sheetlaws.specs.Requests.{want_of, SheetRequestsExact}
use Rattle.sheetlaws.proofs.Reading.{sheets_in_order}

want_in : (es : List Element) (r : Route) (e : ℕ) → e < 96 → get_or (sheet_of es r).wants e no_want ≡ want_at es r e
unfolding sheet_of wants_of
want_in es r e h = get_or-map-range_with_len (want_at es r) 0 96 e e no_want h (omega arith)

pub want_is : (d : Drawing) → SoundPlan d → (i : ℕ) → HasRoute d i → (e : ℕ) → e < 96 → want_of d i e ≡ want_at (elements_of d) (route_of d i) e
want_is d p i h e l =
    ap (λ (a : RouteSheet). get_or a.wants e no_want) ((sheets_in_order d p).1 i no_sheet h) ∙ want_in (elements_of d) (route_of d i) e l

-- the position read from two marks, of which at most one is set
asked_plus : (plus minus : Bool) → cond plus (Some position.Plus) (cond minus (Some position.Minus) None) ≡ Some position.Plus → plus ≡ true
asked_plus true minus e = refl
asked_plus false true e = cc
asked_plus false false e = cc

asked_minus : (plus minus : Bool) → cond plus (Some position.Plus) (cond minus (Some position.Minus) None) ≡ Some position.Minus → minus ≡ true
asked_minus true minus e = cc
asked_minus false true e = refl
asked_minus false false e = cc

minus_asked : (plus minus : Bool) → (plus ≡ true → ⊥) → minus ≡ true
    → cond plus (Some position.Plus) (cond minus (Some position.Minus) None) ≡ Some position.Minus
minus_asked true minus n e = absurd (n refl)
minus_asked false minus n e = rw e

module _ (d : Drawing) (sound : SoundPlan d) (i : ℕ) (h : HasRoute d i) (e : ℕ) (low : e < 96) where
  abbrev es : List Element
  es = elements_of d

  abbrev r : Route
  r = route_of d i

  abbrev mark : Mark
  mark = get_or (route_marks es r) e unmarked

  request_is : (want_of d i e).request ≡ requested mark
  unfolding want_at
  request_is = ap (λ (w : Want). w.request) (want_is d sound i h e low)

  has_asked : (p : Position) → Has (route_marks es r) (shield e p) → Requested es r e p
  has_asked p t =
      (requests_exact es r sound.elements sound.few_elements (sound.paths i h) (sound.overlaps i h) e p).1 (requests_have (route_marks es r) 96 e p low t)

  asked_has : (p : Position) → Requested es r e p → Has (route_marks es r) (shield e p)
  asked_has p q =
      (in_requests (route_marks es r) 96 e p
      ((requests_exact es r sound.elements sound.few_elements (sound.paths i h) (sound.overlaps i h) e p).0 q)).1

  asked_sound : (p : Position) → requested mark ≡ Some p → Requested es r e p
  asked_sound position.Plus t = has_asked position.Plus (asked_plus mark.plus mark.minus t)
  asked_sound position.Minus t = has_asked position.Minus (asked_minus mark.plus mark.minus t)

  asked_from : (p : Position) → Requested es r e p → requested mark ≡ Some p
  asked_from position.Plus q = ap (λ (b : Bool). cond b (Some position.Plus) (cond mark.minus (Some position.Minus) None)) (asked_has position.Plus q)
  asked_from position.Minus q =
      minus_asked mark.plus mark.minus (λ t. sound.one_way i h e (has_asked position.Plus t) q) (asked_has position.Minus q)

pub sheet_requests_exact : SheetRequestsExact
sheet_requests_exact d sound i h e low p =
    ((λ t. asked_sound d sound i h e low p (sym (request_is d sound i h e low) ∙ t)), (λ q. request_is d sound i h e low ∙ asked_from d sound i h e low p q))
