-- A route passes the test of requests exactly if it requests no element both ways.
use Rattle.std.proofs.Common.{◌≡◌, ◌∙◌, ℕ, suc, ◌<◌, ◌≤◌, Bool, true, false, not, ◌⊎◌, List, [], ◌∷◌, length, get_or, is_some, Some, None, Option, sym, refl, ap, subst, inl, inr, ⊎_elim, arith}
use Rattle.std.specs.List.{list_any, zip}
use Rattle.std.proofs.Math.ListN.{get_or-eq_default}
use Rattle.std.proofs.lemmas.Bool.Decides.{nat_tests}
use Rattle.std.proofs.lemmas.List.{get_or_default, get_or_past}
use Rattle.std.proofs.lemmas.List.Folds.{list_any_at}
use Rattle.std.proofs.lemmas.Slice.Zip.{length-zip, get_or-zip}
use Rattle.std.proofs.lemmas.Bool.{or_cases, and_parts, and_from, not-true, not_from_false, false_from_ne_true, both_ways, cases_lt}
use Rattle.layout.specs.declared.element.Element.{Element}
use Rattle.layout.specs.declared.element.Join.{Join}
use Rattle.layout.specs.declared.kind.Kind.TheVariants as kind
use Rattle.layout.specs.declared.kind.Dual.{Dual}
use Rattle.layout.specs.declared.kind.Dual.TheVariants as dual
use Rattle.layout.specs.declared.position.Position.{Position}
use Rattle.layout.specs.declared.position.Position.TheVariants as position
use Rattle.layout.specs.declared.route.Route.{Route}
use Rattle.layout.specs.Drawings.{no_element}
use Rattle.layout.specs.Kinds.{is_point}
use Rattle.layout.specs.Ports.{at}
use Rattle.layout.specs.Sound.{SoundElements}
use Rattle.paths.specs.Sound.{HasSoundPath, AllowedOverlap}
use Rattle.flank.specs.declared.answers.Mark.{Mark}
use Rattle.flank.specs.Search.{unmarked}
use Rattle.flank.specs.Protection.{route_marks, request, requests_of}
use Rattle.walks.specs.Walks.{Is, Prefers, both, plus, minus, Able, derailer, signal, point, Requested}
use Rattle.walks.specs.Exactly.{In}
use Rattle.walks.proofs.Told.{able_point}
use Rattle.walks.proofs.Tables.{in_requests, requests_have}
use Rattle.walks.proofs.Exactly.{requests_exact}
use Rattle.plan.specs.RequestTests.{is_torn, asks_both_ways}

abbrev prefers : Position → Dual
prefers position.Plus = dual.PrefersPlus
prefers position.Minus = dual.PrefersMinus

prefers_at : {o : Option Dual} {p : Position} → Prefers o p → (o ≡ None) ⊎ (o ≡ Some (prefers p))
prefers_at both = inl refl
prefers_at plus = inr refl
prefers_at minus = inr refl

-- only a point without the dual field may shield in both positions
no_dual : (o : Option Dual) → Prefers o position.Plus → Prefers o position.Minus → is_some o ≡ false
no_dual o a b = elim (prefers_at a) [
  | inl e ↦ ap is_some e
  | inr e ↦ elim (prefers_at b) [ inl f ↦ ap is_some f | inr f ↦ cc ]
]

able_kind : {es : List Element} {r : Route} {q : Join} {p : Position} → Able es r q p → (p ≡ position.Plus) ⊎ Is kind.Point es q
able_kind (derailer k) = inl refl
able_kind (signal k m f) = inl refl
able_kind (point p k f d b) = inr k

minus_point : {es : List Element} {r : Route} {q : Join} → Able es r q position.Minus → Is kind.Point es q
minus_point a = elim (able_kind a) [ inl e ↦ cc | inr k ↦ k ]

point_known : (es : List Element) (e : ℕ) → (at es e).kind ≡ kind.Point → e < length es
point_known es e k = elim (cases_lt e (length es)) [
  | inl l ↦ l
  | inr g ↦ let past : at es e ≡ no_element = grind (arith, nat_tests, get_or_past es e no_element) in
      let z : kind.Track ≡ kind.Point = sym (ap (λ (x : Element). x.kind) past) ∙ k in cc
]

-- where some item passes a test, one at some place does
pub some_place : {X : Type 0} (test : X → Bool) (xs : List X) (d : X) → list_any test xs ≡ true → (k : ℕ) × (k < length xs) × (test (get_or xs k d) ≡ true)
some_place test [] d t = cc
some_place test (x ∷ xs) d t =
    ⊎_elim
    (λ (here : test x ≡ true). (0, omega arith, here))
    (λ (later : list_any test xs ≡ true). let y = some_place test xs d later in (suc y.0, omega (arith, y.1), y.2))
    (or_cases (test x) (list_any test xs) t)

module _ (es : List Element) (r : Route) (sound : SoundElements es) (few : length es ≤ 96) (path : HasSoundPath es r) (overlap : AllowedOverlap es r) where
  asked : (e : ℕ) (p : Position) → Requested es r e p → In (request e p) (requests_of es r)
  asked e p q = (requests_exact es r sound few path overlap e p).0 q

  point_at : (e : ℕ) → Requested es r e position.Minus → (at es e).kind ≡ kind.Point
  point_at e q = subst (λ (n : ℕ). (at es n).kind ≡ kind.Point) q.is (minus_point q.able)

  prefers_of : (e : ℕ) (p : Position) → (at es e).kind ≡ kind.Point → Requested es r e p → Prefers (at es e).dual p
  prefers_of e p k q =
      subst (λ (n : ℕ). Prefers (at es n).dual p) q.is (able_point (subst (λ (n : ℕ). (at es n).kind ≡ kind.Point) (sym q.is) k) q.able).2

  abbrev marked : List Mark
  marked = route_marks es r

  torn_at : (e : ℕ) → Requested es r e position.Plus → Requested es r e position.Minus → is_torn (at es e, get_or marked e unmarked) ≡ true
  torn_at e a b =
      let k : (at es e).kind ≡ kind.Point = point_at e b in
      let x = in_requests marked 96 e position.Plus (asked e position.Plus a) in
      let y = in_requests marked 96 e position.Minus (asked e position.Minus b) in
      let none : is_some (at es e).dual ≡ false = no_dual (at es e).dual (prefers_of e position.Plus k a) (prefers_of e position.Minus k b) in
      and_from _ _ (ap is_point k) (and_from _ _ (not_from_false _ none) (and_from _ _ x.1 y.1))

  -- elements and what is asked of them, side by side
  abbrev pairs : List (Element × Mark)
  pairs = zip es marked

  pair_at : (e : ℕ) → e < length es → e < length marked → get_or pairs e (no_element, unmarked) ≡ (at es e, get_or marked e unmarked)
  pair_at e l m =
      let known : get_or es e no_element ≡ at es e = grind (arith, nat_tests, get_or_default es e no_element) in
      get_or-zip es marked e (no_element, unmarked) l m ∙ ap (λ (x : Element). (x, get_or marked e unmarked)) known

  -- what is asked is in the table
  in_table : (e : ℕ) → (get_or marked e unmarked).plus ≡ true → e < length marked
  in_table e t = elim (cases_lt e (length marked)) [
    | inl l ↦ l
    | inr g ↦ let no : get_or marked e unmarked ≡ unmarked = get_or-eq_default marked unmarked g in cc
  ]

  pub one_way_sound : not (asks_both_ways es r) ≡ true → (e : ℕ) → Requested es r e position.Plus → Requested es r e position.Minus → ⊥
  unfolding asks_both_ways
  one_way_sound t e a b =
      let x = in_requests marked 96 e position.Plus (asked e position.Plus a) in
      let l : e < length es = point_known es e (point_at e b) in
      let m : e < length marked = in_table e x.1 in
      let torn : is_torn (get_or pairs e (no_element, unmarked)) ≡ true = ap is_torn (pair_at e l m) ∙ torn_at e a b in
      both_ways (list_any is_torn pairs) (not-true _ t) (list_any_at is_torn pairs e (no_element, unmarked) (omega (arith, length-zip es marked)) torn)

  -- an element that is torn is requested both ways
  torn_asks : (e : ℕ) → e < length pairs → is_torn (get_or pairs e (no_element, unmarked)) ≡ true
      → Requested es r e position.Plus × Requested es r e position.Minus
  torn_asks e k t =
      let l : e < length es = omega (arith, length-zip es marked) in
      let m : e < length marked = omega (arith, length-zip es marked) in
      let a = and_parts (is_point (at es e).kind) _ (sym (ap is_torn (pair_at e l m)) ∙ t) in
      let b = and_parts (not (is_some (at es e).dual)) _ a.1 in
      let c = and_parts (get_or marked e unmarked).plus _ b.1 in (
        (requests_exact es r sound few path overlap e position.Plus).1 (requests_have marked 96 e position.Plus (omega (arith, few)) c.0),
        (requests_exact es r sound few path overlap e position.Minus).1 (requests_have marked 96 e position.Minus (omega (arith, few)) c.1),
      )

  pub both_ways_asked : asks_both_ways es r ≡ true → (e : ℕ) × Requested es r e position.Plus × Requested es r e position.Minus
  unfolding asks_both_ways
  both_ways_asked t =
      let x = some_place is_torn pairs (no_element, unmarked) t in
      let asked = torn_asks x.0 x.1 x.2 in
      (x.0, asked.0, asked.1)

  pub one_way_from : ((e : ℕ) → Requested es r e position.Plus → Requested es r e position.Minus → ⊥) → not (asks_both_ways es r) ≡ true
  one_way_from h = not_from_false _ (false_from_ne_true _ (λ t. let x = both_ways_asked t in h x.0 x.1 x.2))
