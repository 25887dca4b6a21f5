-- The fault that the checks find is wrong, and comes before all else that is wrong.
use Rattle.std.proofs.Common.{◌≡◌, ℕ, zero, suc, ◌+◌, ◌<◌, ◌≤◌, Bool, true, false, not, ◌⊎◌, List, length, get_or, Some, None, Option, sym, refl, ap, ◌∙◌, subst, inl, inr, arith}
use Rattle.std.proofs.lemmas.Bool.{both_ways, cases_eq, cases_order}
use Rattle.std.specs.Option.{option_or}
use Rattle.bounded.specs.Lists.{listed}
use Rattle.faults.specs.declared.fault.Cause.{Cause}
use Rattle.faults.specs.declared.fault.Cause.TheVariants as cause
use Rattle.faults.specs.declared.fault.Fault.{Fault}
use Rattle.faults.specs.Numbers.{number_of, layer_of}
use Rattle.layout.specs.declared.element.Element.{Element}
use Rattle.layout.specs.declared.position.Position.TheVariants as position
use Rattle.layout.specs.declared.route.Route.{Route}
use Rattle.layout.specs.Drawings.{no_route}
use Rattle.layout.specs.Ports.{at}
use Rattle.layout.specs.Sound.{HasItsFields, SoundElements}
use Rattle.paths.specs.Paths.{has_path}
use Rattle.paths.specs.Overlaps.{is_overlap_allowed}
use Rattle.paths.specs.Sound.{HasSoundPath, AllowedOverlap}
use Rattle.paths.proofs.PathsExact.{paths_exact}
use Rattle.paths.proofs.OverlapsExact.{overlaps_exact}
use Rattle.walks.specs.Walks.{Requested}
use Rattle.planbytes.specs.Bytes.{fault}
use Rattle.plan.specs.Checks.{first_fault, unmet, Demand, element_fault, elements_fault, fields_fault, joins_fault, entries_fault, route_fault_at, routes_fault, content_fault}
use Rattle.plan.specs.ElementTests.{has_its_fields, are_joins_sound, is_entry_unmarked}
use Rattle.plan.specs.Faults.{SoundJoins, Wrong, wrong_fields, wrong_joins, wrong_entry, wrong_path, wrong_overlap, wrong_both_ways, Ordered, Before, by_layer, in_elements, in_routes, ComesFirst, FaultsExact}
use Rattle.plan.specs.RequestTests.{asks_both_ways}
use Rattle.plan.proofs.FieldsExact.{fields_sound, fields_from, EntryUnmarked, entry_sound, entry_marked}
use Rattle.plan.proofs.FirstTurn.{neither, first_clear}
use Rattle.plan.proofs.JoinsExact.{joins_at, joins_test, joins_of}
use Rattle.plan.proofs.OneWay.{one_way_sound, both_ways_asked}
use Rattle.plan.proofs.PlansExact.{few, met_sound, all_meet, one_meets, elements_sound}

-- of two faults, one comes before the other
ordered_once : (a b : ℕ × ℕ) → Ordered a b → Ordered b a → ⊥
ordered_once a b (inl x) (inl y) = omega arith
ordered_once a b (inl x) (inr y) = omega (arith, y.0)
ordered_once a b (inr x) (inl y) = omega (arith, x.0)
ordered_once a b (inr x) (inr y) = omega (arith, x.1, y.1)

before_once : {a b : Fault} → Before a b → Before b a → ⊥
before_once (by_layer x) (by_layer y) = omega arith
before_once (by_layer x) (in_elements l m o) = omega arith
before_once (by_layer x) (in_routes l m o) = omega arith
before_once (in_elements l m o) (by_layer y) = omega arith
before_once (in_elements l m o) (in_elements k n p) = ordered_once _ _ o p
before_once (in_elements l m o) (in_routes k n p) = omega arith
before_once (in_routes l m o) (by_layer y) = omega arith
before_once (in_routes l m o) (in_elements k n p) = omega arith
before_once (in_routes l m o) (in_routes k n p) = ordered_once _ _ o p

-- a fault is another, or comes before it
abbrev Then : Fault → Fault → Type 0
Then f g = (f ≡ g) ⊎ Before f g

same_element : (c : Cause) → layer_of c ≡ 2 → (e k : ℕ) → (k < e → ⊥) → Then (fault c e) (fault c k)
same_element c l e k n =
    elim (cases_order e k) [ inl s ↦ inl (ap (fault c) s) | inr (inl low) ↦ inr (in_elements l l (inr (refl, low))) | inr (inr high) ↦ absurd (n high) ]

next_element : (c b : Cause) → layer_of c ≡ 2 → layer_of b ≡ 2 → number_of c < number_of b → (e k : ℕ) → Then (fault c e) (fault b k)
next_element c b l m o e k = inr (in_elements l m (inl o))

elements_first : (c b : Cause) → layer_of c < layer_of b → (e i : ℕ) → Then (fault c e) (fault b i)
elements_first c b l e i = inr (by_layer l)

same_route : (c : Cause) → layer_of c ≡ 3 → (i k : ℕ) → (k < i → ⊥) → Then (fault c i) (fault c k)
same_route c l i k n =
    elim (cases_order i k) [ inl s ↦ inl (ap (fault c) s) | inr (inl low) ↦ inr (in_routes l l (inl low)) | inr (inr high) ↦ absurd (n high) ]

next_route : (c b : Cause) → layer_of c ≡ 3 → layer_of b ≡ 3 → number_of c < number_of b → (i k : ℕ) → (k < i → ⊥) → Then (fault c i) (fault b k)
next_route c b l m o i k n =
    elim (cases_order i k) [ inl s ↦ inr (in_routes l m (inr (s, o))) | inr (inl low) ↦ inr (in_routes l m (inl low)) | inr (inr high) ↦ absurd (n high) ]

past_route : (c b : Cause) → layer_of c ≡ 3 → layer_of b ≡ 3 → (i k : ℕ) → (k < i → ⊥) → (i ≡ k → ⊥) → Then (fault c i) (fault b k)
past_route c b l m i k n d =
    elim (cases_order i k) [ inl s ↦ absurd (d s) | inr (inl low) ↦ inr (in_routes l m (inl low)) | inr (inr high) ↦ absurd (n high) ]

-- the first of two faults, and of those of numbers in a row
first_of_two : (a b : Option Fault) (f : Fault) → option_or a b ≡ Some f → (a ≡ Some f) ⊎ ((a ≡ None) × (b ≡ Some f))
first_of_two None b f e = inr (refl, e)
first_of_two (Some x) b f e = inl e

record FirstFound (faulty : ℕ → Option Fault) (n i : ℕ) (f : Fault) : Type 0 where
  pub number : ℕ
  pub from : i ≤ number
  pub below : number < i + n
  pub is : faulty number ≡ Some f
  pub before : (j : ℕ) → i ≤ j → j < number → faulty j ≡ None

first_found : (faulty : ℕ → Option Fault) (n i : ℕ) (f : Fault) → first_fault faulty n i ≡ Some f → FirstFound faulty n i f
first_found faulty zero i f e = cc
first_found faulty (suc n) i f e =
    elim (first_of_two (faulty i) (first_fault faulty n (i + 1)) f e) [
      | inl x ↦ record { number = i; from = omega arith; below = omega arith; is = x; before = λ j l m. absurd (omega arith) }
      | inr x ↦
          let later : FirstFound faulty n (i + 1) f = first_found faulty n (i + 1) f x.1 in
          record {
            number = later.number;
            from = omega (arith, later.from);
            below = omega (arith, later.below);
            is = later.is;
            before = λ j l m. elim (cases_eq j i) [ inl s ↦ ap faulty s ∙ x.0 | inr d ↦ later.before j (omega arith) m ];
          }
    ]

unmet_is : (met : Bool) (c : Cause) (place : ℕ) (f : Fault) → unmet met c place ≡ Some f → (met ≡ false) × (fault c place ≡ f)
unmet_is true c place f e = cc
unmet_is false c place f e = (refl, (cc))

module _ (es : List Element) where
  -- the first element that does not meet a demand
  record ElementFound (demand : Demand) (c : Cause) (f : Fault) : Type 0 where
    pub number : ℕ
    pub low : number < length es
    pub fails : demand number (at es number) ≡ false
    pub is : fault c number ≡ f
    pub before : (k : ℕ) → k < number → demand k (at es k) ≡ true

  element_found : (demand : Demand) (c : Cause) (f : Fault) → elements_fault es demand c ≡ Some f → ElementFound demand c f
  unfolding elements_fault
  element_found demand c f t =
      let x : FirstFound (element_fault es demand c) (length es) 0 f = first_found (element_fault es demand c) (length es) 0 f t in
      let failed = unmet_is (demand x.number (at es x.number)) c x.number f x.is in
      record {
        number = x.number;
        low = omega (arith, x.below);
        fails = failed.0;
        is = failed.1;
        before = λ k l. met_sound (demand k (at es k)) c k (x.before k (omega arith) l);
      }

  entry_right : SoundElements es → (e : ℕ) → e < length es → EntryUnmarked (at es e)
  entry_right sound e l m = sound.entries e m l

module _ (es : List Element) (rs : List Route) where
  abbrev route : ℕ → Route
  route i = get_or rs i no_route

  -- what comes after the fields of an element, its joins and its marks
  after_fields : (e : ℕ) → ((k : ℕ) → k < e → HasItsFields (at es k)) → {g : Fault} → Wrong es rs g → Then (fault cause.Fields e) g
  after_fields e before (wrong_fields {e = k} l n) = same_element cause.Fields refl e k (λ h. n (before k h))
  after_fields e before (wrong_joins {e = k} l n) = next_element cause.Fields cause.Join refl refl (omega arith) e k
  after_fields e before (wrong_entry {e = k} l m s i q) = next_element cause.Fields cause.EntryMarked refl refl (omega arith) e k
  after_fields e before (wrong_path {i} l n) = elements_first cause.Fields cause.Path (omega arith) e i
  after_fields e before (wrong_overlap {i} l n) = elements_first cause.Fields cause.Overlap (omega arith) e i
  after_fields e before (wrong_both_ways {i} l x a b) = elements_first cause.Fields cause.BothWays (omega arith) e i

  module _ (fields : (k : ℕ) → k < length es → HasItsFields (at es k)) where
    after_joins : (e : ℕ) → ((k : ℕ) → k < e → SoundJoins es k) → {g : Fault} → Wrong es rs g → Then (fault cause.Join e) g
    after_joins e before (wrong_fields {e = k} l n) = absurd (n (fields k l))
    after_joins e before (wrong_joins {e = k} l n) = same_element cause.Join refl e k (λ h. n (before k h))
    after_joins e before (wrong_entry {e = k} l m s i q) = next_element cause.Join cause.EntryMarked refl refl (omega arith) e k
    after_joins e before (wrong_path {i} l n) = elements_first cause.Join cause.Path (omega arith) e i
    after_joins e before (wrong_overlap {i} l n) = elements_first cause.Join cause.Overlap (omega arith) e i
    after_joins e before (wrong_both_ways {i} l x a b) = elements_first cause.Join cause.BothWays (omega arith) e i

    module _ (joins : (k : ℕ) → k < length es → SoundJoins es k) where
      after_entry : (e : ℕ) → ((k : ℕ) → k < e → EntryUnmarked (at es k)) → {g : Fault} → Wrong es rs g → Then (fault cause.EntryMarked e) g
      after_entry e before (wrong_fields {e = k} l n) = absurd (n (fields k l))
      after_entry e before (wrong_joins {e = k} l n) = absurd (n (joins k l))
      after_entry e before (wrong_entry {e = k} l m s i q) = same_element cause.EntryMarked refl e k (λ h. both_ways m.requested (before k h m s i) q)
      after_entry e before (wrong_path {i} l n) = elements_first cause.EntryMarked cause.Path (omega arith) e i
      after_entry e before (wrong_overlap {i} l n) = elements_first cause.EntryMarked cause.Overlap (omega arith) e i
      after_entry e before (wrong_both_ways {i} l x a b) = elements_first cause.EntryMarked cause.BothWays (omega arith) e i

  module _ (sound : SoundElements es) (small : length es ≤ 96) where
    -- nothing is wrong with sound elements
    element_right : {g : Fault} → Wrong es rs g → layer_of g.cause ≡ 2 → ⊥
    element_right (wrong_fields {e = k} l n) two = n (sound.fields k l)
    element_right (wrong_joins {e = k} l n) two = n (joins_of es sound.joins k l)
    element_right (wrong_entry {e = k} l m s i q) two = both_ways m.requested (sound.entries k m l s i) q
    element_right (wrong_path l n) two = omega arith
    element_right (wrong_overlap l n) two = omega arith
    element_right (wrong_both_ways l x a b) two = omega arith

    -- a route with which nothing is wrong
    record Right (i : ℕ) : Type 0 where
      pub path : HasSoundPath es (route i)
      pub overlap : AllowedOverlap es (route i)
      pub one_way : (e : ℕ) → Requested es (route i) e position.Plus → Requested es (route i) e position.Minus → ⊥

    right : (i : ℕ) → route_fault_at es rs i ≡ None → Right i
    right i t =
        let met = one_meets es (route i) i t in
        let path : HasSoundPath es (route i) = (paths_exact es (route i) sound).0 met.0 in
        let overlap : AllowedOverlap es (route i) = (overlaps_exact es (route i) sound path).0 met.1 in
        record { path = path; overlap = overlap; one_way = one_way_sound es (route i) sound small path overlap met.2 }

    all_right : ((k : ℕ) → k < length rs → Right k) → {g : Fault} → Wrong es rs g → ⊥
    all_right each (wrong_fields l n) = element_right (wrong_fields l n) refl
    all_right each (wrong_joins l n) = element_right (wrong_joins l n) refl
    all_right each (wrong_entry l m s i q) = element_right (wrong_entry l m s i q) refl
    all_right each (wrong_path {i = k} l n) = n (each k l).path
    all_right each (wrong_overlap {i = k} l n) = n (each k l).overlap
    all_right each (wrong_both_ways {i = k} l e a b) = (each k l).one_way e a b

    -- what comes after the path of a route, its overlap and its requests
    module _ (i : ℕ) (before : (k : ℕ) → k < i → Right k) where
      after_path : {g : Fault} → Wrong es rs g → Then (fault cause.Path i) g
      after_path (wrong_fields l n) = absurd (element_right (wrong_fields l n) refl)
      after_path (wrong_joins l n) = absurd (element_right (wrong_joins l n) refl)
      after_path (wrong_entry l m s j q) = absurd (element_right (wrong_entry l m s j q) refl)
      after_path (wrong_path {i = k} l n) = same_route cause.Path refl i k (λ h. n (before k h).path)
      after_path (wrong_overlap {i = k} l n) = next_route cause.Path cause.Overlap refl refl (omega arith) i k (λ h. n (before k h).overlap)
      after_path (wrong_both_ways {i = k} l e a b) = next_route cause.Path cause.BothWays refl refl (omega arith) i k (λ h. (before k h).one_way e a b)

      module _ (path : HasSoundPath es (route i)) where
        after_overlap : {g : Fault} → Wrong es rs g → Then (fault cause.Overlap i) g
        after_overlap (wrong_fields l n) = absurd (element_right (wrong_fields l n) refl)
        after_overlap (wrong_joins l n) = absurd (element_right (wrong_joins l n) refl)
        after_overlap (wrong_entry l m s j q) = absurd (element_right (wrong_entry l m s j q) refl)
        after_overlap (wrong_path {i = k} l n) =
            past_route cause.Overlap cause.Path refl refl i k (λ h. n (before k h).path) (λ s. n (subst (λ j. HasSoundPath es (route j)) s path))
        after_overlap (wrong_overlap {i = k} l n) = same_route cause.Overlap refl i k (λ h. n (before k h).overlap)
        after_overlap (wrong_both_ways {i = k} l e a b) = next_route cause.Overlap cause.BothWays refl refl (omega arith) i k (λ h. (before k h).one_way e a b)

        module _ (overlap : AllowedOverlap es (route i)) where
          after_requests : {g : Fault} → Wrong es rs g → Then (fault cause.BothWays i) g
          after_requests (wrong_fields l n) = absurd (element_right (wrong_fields l n) refl)
          after_requests (wrong_joins l n) = absurd (element_right (wrong_joins l n) refl)
          after_requests (wrong_entry l m s j q) = absurd (element_right (wrong_entry l m s j q) refl)
          after_requests (wrong_path {i = k} l n) =
              past_route cause.BothWays cause.Path refl refl i k (λ h. n (before k h).path) (λ s. n (subst (λ j. HasSoundPath es (route j)) s path))
          after_requests (wrong_overlap {i = k} l n) =
              past_route cause.BothWays cause.Overlap refl refl i k (λ h. n (before k h).overlap) (λ s. n (subst (λ j. AllowedOverlap es (route j)) s overlap))
          after_requests (wrong_both_ways {i = k} l e a b) = same_route cause.BothWays refl i k (λ h. (before k h).one_way e a b)

      -- the fault of the first route that has one
      route_first : (f : Fault) → i < length rs → route_fault_at es rs i ≡ Some f → ComesFirst es rs f
      route_first f low t = elim (first_of_two (unmet (has_path es (route i)) cause.Path i) _ f t) [
        | inl x ↦
            let failed = unmet_is (has_path es (route i)) cause.Path i f x in
            subst (ComesFirst es rs) failed.1
            (wrong_path low (λ h. both_ways _ failed.0 ((paths_exact es (route i) sound).1 h)), λ g w. after_path w)
        | inr x ↦
            let path : HasSoundPath es (route i) = (paths_exact es (route i) sound).0 (met_sound _ cause.Path i x.0) in
            elim (first_of_two (unmet (is_overlap_allowed es (route i)) cause.Overlap i) _ f x.1) [
              | inl y ↦
                  let failed = unmet_is (is_overlap_allowed es (route i)) cause.Overlap i f y in
                  subst (ComesFirst es rs) failed.1
                  (wrong_overlap low (λ h. both_ways _ failed.0 ((overlaps_exact es (route i) sound path).1 h)), λ g w. after_overlap path w)
              | inr y ↦
                  let overlap : AllowedOverlap es (route i) = (overlaps_exact es (route i) sound path).0 (met_sound _ cause.Overlap i y.0) in
                  let failed = unmet_is (not (asks_both_ways es (route i))) cause.BothWays i f y.1 in
                  let asked = both_ways_asked es (route i) sound small path overlap (not_false (asks_both_ways es (route i)) failed.0) in
                  subst (ComesFirst es rs) failed.1 (wrong_both_ways low asked.0 asked.1 asked.2, λ g w. after_requests path overlap w)
            ]
      ]
        where
          not_false : (b : Bool) → not b ≡ false → b ≡ true
          not_false true e = refl
          not_false false e = cc

    routes_first : (f : Fault) → routes_fault es rs ≡ Some f → ComesFirst es rs f
    unfolding routes_fault
    routes_first f t =
        let x : FirstFound (route_fault_at es rs) (length rs) 0 f = first_found (route_fault_at es rs) (length rs) 0 f t in
        route_first x.number (λ k h. right k (x.before k (omega arith) h)) f (omega (arith, x.below)) x.is

    routes_right : routes_fault es rs ≡ None → {g : Fault} → Wrong es rs g → ⊥
    unfolding routes_fault
    routes_right t = all_right (λ k h. right k (first_clear (route_fault_at es rs) (length rs) 0 t k (omega arith) (omega arith)))

  fields_first : (f : Fault) → fields_fault es ≡ Some f → ComesFirst es rs f
  fields_first f t =
      let x : ElementFound es (λ _ e. has_its_fields e) cause.Fields f = element_found es (λ _ e. has_its_fields e) cause.Fields f t in
      subst (ComesFirst es rs) x.is
      (wrong_fields x.low (λ h. both_ways _ x.fails (fields_from (at es x.number) h)), λ g w. after_fields x.number (λ k h. fields_sound (at es k) (x.before k h)) w)

  joins_first : (f : Fault) → fields_fault es ≡ None → joins_fault es ≡ Some f → ComesFirst es rs f
  joins_first f a t =
      let x : ElementFound es (λ e _. are_joins_sound es e) cause.Join f = element_found es (λ e _. are_joins_sound es e) cause.Join f t in
      let fields : (k : ℕ) → k < length es → HasItsFields (at es k) = λ k h. fields_sound (at es k) (all_meet es _ _ a k h) in
      subst (ComesFirst es rs) x.is
      (wrong_joins x.low (λ h. both_ways _ x.fails (joins_test es x.number h)), λ g w. after_joins fields x.number (λ k h. joins_at es k (x.before k h)) w)

  entries_first : (f : Fault) → fields_fault es ≡ None → joins_fault es ≡ None → entries_fault es ≡ Some f → ComesFirst es rs f
  entries_first f a b t =
      let x : ElementFound es (λ _ e. is_entry_unmarked e) cause.EntryMarked f = element_found es (λ _ e. is_entry_unmarked e) cause.EntryMarked f t in
      let fields : (k : ℕ) → k < length es → HasItsFields (at es k) = λ k h. fields_sound (at es k) (all_meet es _ _ a k h) in
      let joins : (k : ℕ) → k < length es → SoundJoins es k = λ k h. joins_at es k (all_meet es _ _ b k h) in
      let marked = entry_marked (at es x.number) x.fails in
      subst (ComesFirst es rs) x.is
      (wrong_entry x.low marked.0 marked.1 marked.2 marked.3, λ g w. after_entry fields joins x.number (λ k h. entry_sound (at es k) (x.before k h)) w)

  module _ (small : length es ≤ 96) where
    found_first : (f : Fault) → content_fault es rs ≡ Some f → ComesFirst es rs f
    found_first f t = elim (first_of_two (fields_fault es) _ f t) [
      | inl x ↦ fields_first f x
      | inr x ↦ elim (first_of_two (joins_fault es) _ f x.1) [
        | inl y ↦ joins_first f x.0 y
        | inr y ↦ elim (first_of_two (entries_fault es) _ f y.1) [
          | inl z ↦ entries_first f x.0 y.0 z
          | inr z ↦ routes_first (elements_sound es x.0 y.0 z.0) small f z.1
        ]
      ]
    ]

    none_wrong : content_fault es rs ≡ None → {g : Fault} → Wrong es rs g → ⊥
    none_wrong t =
        let a = neither (fields_fault es) _ t in
        let b = neither (joins_fault es) _ a.1 in
        let c = neither (entries_fault es) _ b.1 in
        routes_right (elements_sound es a.0 b.0 c.0) small c.1

    first_found_is : (f : Fault) → ComesFirst es rs f → content_fault es rs ≡ Some f
    first_found_is f first = go (content_fault es rs) refl
      where
        go : (o : Option Fault) → content_fault es rs ≡ o → content_fault es rs ≡ Some f
        go None e = absurd (none_wrong e first.0)
        go (Some h) e =
            let found : ComesFirst es rs h = found_first h e in
            elim (found.1 f first.0) [
              | inl s ↦ e ∙ ap (λ (x : Fault). Some x) s
              | inr x ↦ elim (first.1 h found.0) [
                | inl s ↦ e ∙ ap (λ (x : Fault). Some x) (sym s)
                | inr y ↦ absurd (before_once x y)
              ]
            ]

pub faults_exact : FaultsExact
faults_exact d f =
    let es : List Element = listed d.elements in
    let rs : List Route = listed d.routes in
    (found_first es rs (few d.elements) f, first_found_is es rs (few d.elements) f)
