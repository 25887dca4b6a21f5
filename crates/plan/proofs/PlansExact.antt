-- A drawing passes the checks exactly if it is a sound plan.
use Rattle.std.proofs.Common.{◌≡◌, ℕ, ◌<◌, ◌≤◌, min, Bool, true, false, not, ltb, List, length, get_or, None, refl, ap, arith}
use Rattle.std.proofs.lemmas.Bool.{and_parts, and_from, not-true, ltb-true, lt-ltb}
use Rattle.std.proofs.option.Match.{None-if_not_some}
use Rattle.std.proofs.lemmas.List.{length-take}
use Rattle.std.specs.Option.{is_none, option_or}
use Rattle.bounded.specs.declared.bounded.Bounded.{Bounded}
use Rattle.bounded.specs.Lists.{listed}
use Rattle.faults.specs.declared.fault.Cause.{Cause}
use Rattle.faults.specs.declared.fault.Cause.TheVariants as cause
use Rattle.layout.specs.declared.drawing.Drawing.{Drawing}
use Rattle.layout.specs.declared.element.Element.{Element}
use Rattle.layout.specs.declared.route.Route.{Route}
use Rattle.layout.specs.Drawings.{no_route}
use Rattle.layout.specs.Ports.{at}
use Rattle.layout.specs.Sound.{SoundElements}
use Rattle.paths.specs.Paths.{has_path}
use Rattle.paths.specs.Overlaps.{is_overlap_allowed}
use Rattle.paths.specs.Sound.{HasSoundPath, AllowedOverlap}
use Rattle.paths.proofs.PathsExact.{paths_exact}
use Rattle.paths.proofs.OverlapsExact.{overlaps_exact}
use Rattle.plan.specs.RequestTests.{asks_both_ways}
use Rattle.plan.specs.Checks.{unmet, Demand, element_fault, elements_fault, fields_fault, joins_fault, entries_fault, route_fault, route_fault_at, routes_fault, drawing_fault}
use Rattle.plan.specs.declared.plan.Plan.{Plan}
use Rattle.plan.specs.Plans.{is_sound}
use Rattle.plan.specs.Sound.{SoundPlan, ChecksExact}
use Rattle.plan.proofs.FirstTurn.{neither, neither_from, first_clear, first_from}
use Rattle.plan.proofs.FieldsExact.{fields_sound, fields_from, entry_sound, entry_from}
use Rattle.plan.proofs.JoinsExact.{joined_sound, joined_from}
use Rattle.plan.proofs.OneWay.{one_way_sound, one_way_from}

pub met_sound : (met : Bool) (c : Cause) (place : ℕ) → unmet met c place ≡ None → met ≡ true
met_sound true c place e = refl
met_sound false c place e = cc

met_from : (met : Bool) (c : Cause) (place : ℕ) → met ≡ true → unmet met c place ≡ None
met_from met c place e = rw e

-- one demand over all elements
module _ (es : List Element) (demand : Demand) (c : Cause) where
  pub all_meet : elements_fault es demand c ≡ None → (e : ℕ) → e < length es → demand e (at es e) ≡ true
  unfolding elements_fault
  all_meet t e h = met_sound (demand e (at es e)) c e (first_clear (element_fault es demand c) (length es) 0 t e (omega arith) (omega arith))

  all_from : ((e : ℕ) → e < length es → demand e (at es e) ≡ true) → elements_fault es demand c ≡ None
  unfolding elements_fault
  all_from h = first_from (element_fault es demand c) (length es) 0 (λ e l k. met_from (demand e (at es e)) c e (h e (omega arith)))

-- the demands on one route, and on all
abbrev pub Meets : List Element → Route → Type 0
Meets es r = (has_path es r ≡ true) × (is_overlap_allowed es r ≡ true) × (not (asks_both_ways es r) ≡ true)

pub one_meets : (es : List Element) (r : Route) (i : ℕ) → route_fault es r i ≡ None → Meets es r
one_meets es r i t =
    let one : (unmet (has_path es r) cause.Path i ≡ None)
    × (option_or (unmet (is_overlap_allowed es r) cause.Overlap i) (unmet (not (asks_both_ways es r)) cause.BothWays i) ≡ None)
    = neither _ _ t in
    let two : (unmet (is_overlap_allowed es r) cause.Overlap i ≡ None) × (unmet (not (asks_both_ways es r)) cause.BothWays i ≡ None) = neither _ _ one.1 in
    (met_sound _ cause.Path i one.0, met_sound _ cause.Overlap i two.0, met_sound _ cause.BothWays i two.1)

pub route_meets : (es : List Element) (rs : List Route) → routes_fault es rs ≡ None → (i : ℕ) → i < length rs → Meets es (get_or rs i no_route)
unfolding routes_fault
route_meets es rs t i h = one_meets es (get_or rs i no_route) i (first_clear (route_fault_at es rs) (length rs) 0 t i (omega arith) (omega arith))

routes_from : (es : List Element) (rs : List Route) → ((i : ℕ) → i < length rs → Meets es (get_or rs i no_route)) → routes_fault es rs ≡ None
unfolding routes_fault
routes_from es rs h =
    first_from (route_fault_at es rs) (length rs) 0 (λ i l k.
    let met = h i (omega arith) in
    neither_from _ _ (met_from _ cause.Path i met.0) (neither_from _ _ (met_from _ cause.Overlap i met.1) (met_from _ cause.BothWays i met.2)))

pub elements_sound : (es : List Element) → fields_fault es ≡ None → joins_fault es ≡ None → entries_fault es ≡ None → SoundElements es
elements_sound es f j n = record {
  fields = λ e h. fields_sound (at es e) (all_meet es _ _ f e h);
  joins = joined_sound es (all_meet es _ _ j);
  entries = λ e m h. entry_sound (at es e) (all_meet es _ _ n e h) m;
}

-- a bounded list is never longer than its bound
pub few : {X : Type 0} {N : ℕ} (b : Bounded X N) → length (listed b) ≤ N
few {X} {N} b = omega (arith, length-take (min b.count N) b.places)

plan_sound : (d : Drawing) → is_sound d ≡ true → SoundPlan d
unfolding is_sound
plan_sound d t =
    let es : List Element = listed d.elements in
    let rs : List Route = listed d.routes in
    let some : (ltb 0 (length es) ≡ true) × (is_none (drawing_fault d) ≡ true) = and_parts (ltb 0 (length es)) _ t in
    let a : (fields_fault es ≡ None) × (option_or (joins_fault es) (option_or (entries_fault es) (routes_fault es rs)) ≡ None)
    = neither _ _ (None-if_not_some (drawing_fault d) (not-true _ some.1)) in
    let b : (joins_fault es ≡ None) × (option_or (entries_fault es) (routes_fault es rs) ≡ None) = neither _ _ a.1 in
    let c : (entries_fault es ≡ None) × (routes_fault es rs ≡ None) = neither _ _ b.1 in
    let sound : SoundElements es = elements_sound es a.0 b.0 c.0 in
    let path : (i : ℕ) → i < length rs → HasSoundPath es (get_or rs i no_route) = λ i h. (paths_exact es (get_or rs i no_route) sound).0 (route_meets es rs c.1 i h).0 in
    let overlap : (i : ℕ) → i < length rs → AllowedOverlap es (get_or rs i no_route)
    = λ i h. (overlaps_exact es (get_or rs i no_route) sound (path i h)).0 (route_meets es rs c.1 i h).1 in
    record {
      some_element = ltb-true 0 (length es) some.0;
      few_elements = few d.elements;
      few_routes = few d.routes;
      elements = sound;
      paths = path;
      overlaps = overlap;
      one_way = λ i h. one_way_sound es (get_or rs i no_route) sound (few d.elements) (path i h) (overlap i h) (route_meets es rs c.1 i h).2;
    }

plan_from : (d : Drawing) → SoundPlan d → is_sound d ≡ true
unfolding is_sound
plan_from d s =
    let es : List Element = listed d.elements in
    let rs : List Route = listed d.routes in
    let none : drawing_fault d ≡ None
    = neither_from _ _ (all_from es _ _ (λ e h. fields_from (at es e) (s.elements.fields e h)))
    (neither_from _ _ (all_from es _ _ (joined_from es s.elements.joins))
    (neither_from _ _ (all_from es _ _ (λ e h. entry_from (at es e) (λ m. s.elements.entries e m h)))
    (routes_from es rs (λ i h. (
      (paths_exact es (get_or rs i no_route) s.elements).1 (s.paths i h),
      (overlaps_exact es (get_or rs i no_route) s.elements (s.paths i h)).1 (s.overlaps i h),
      one_way_from es (get_or rs i no_route) s.elements s.few_elements (s.paths i h) (s.overlaps i h) (s.one_way i h),
    ))))) in
    and_from _ _ (lt-ltb 0 (length es) s.some_element) (ap is_none none)

pub checks_exact : ChecksExact
checks_exact d = (plan_sound d, plan_from d)

-- every plan passed the checks
pub plan_is_sound : (p : Plan) → SoundPlan p.drawing
plan_is_sound p = plan_sound p.drawing p.sound
