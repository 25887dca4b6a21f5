-- A clear and a release are accepted exactly if nothing speaks against them, an event exactly if it is of the plan.
use Rattle.std.proofs.Common.{◌≡◌, ℕ, ◌<◌, ◌≤◌, true, false, ltb, List, get_or, map, Some, None, sym, ap, ◌∙◌, ⊎_elim, arith}
use Rattle.std.specs.List.{range_with_len}
use Rattle.std.proofs.lemmas.List.{get_or_past}
use Rattle.std.proofs.lemmas.List.FromFn.{length-map-range_with_len}
use Rattle.std.proofs.lemmas.Bool.{cases_lt, and_parts, and_from, both_ways, or_left, ltb-true, lt-ltb, cond-true}
use Rattle.layout.specs.declared.drawing.Drawing.{Drawing}
use Rattle.layout.specs.declared.element.Element.{Element}
use Rattle.layout.specs.declared.kind.Kind.{Kind}
use Rattle.layout.specs.declared.kind.Kind.TheVariants as kind
use Rattle.layout.specs.Drawings.{no_element}
use Rattle.layout.specs.Kinds.{is_signal}
use Rattle.layout.specs.Ports.{at}
use Rattle.layout.proofs.KindTests.{signal_test}
use Rattle.refusals.specs.declared.refusal.Refusal.TheVariants as refusal
use Rattle.sheets.specs.declared.sheet.ElementSheet.{ElementSheet}
use Rattle.sheets.specs.Reading.{route_sheet, use_of, element_of, moves, has_section}
use Rattle.sheets.specs.Sections.{is_known, known_of}
use Rattle.sheets.specs.Sheets.{element_sheet, no_element_sheet, element_sheets, sheets_of}
use Rattle.plan.specs.Sound.{SoundPlan}
use Rattle.sheetlaws.specs.Routes.{elements_of, HasRoute}
use Rattle.sheetlaws.proofs.ElementsExact.{known_exact}
use Rattle.acts.specs.declared.act.Event.{Event}
use Rattle.acts.specs.declared.act.Event.TheVariants as event
use Rattle.acts.specs.Answers.{is_event}
use Rattle.runlaws.proofs.Coherent.{passes_test}
use Rattle.runlaws.proofs.Accepting as accepting
use Rattle.safety.specs.Words.{Moved, point, derailer}
use Rattle.safety.specs.Accepting.{ClearExactly, ReleaseExactly, HasSection, OfThePlan, report, block, lamp, occupation, EventExactly}
use Rattle.safety.proofs.PlanLawful.{route_known, route_has, path_told, plan_lawful}
use Rattle.safety.proofs.Passed.{moved_moves, kind_told}
use Rattle.safety.proofs.SetExact.{use_low, path_meant}

-- past the last of 96 sheets and of 64 sections there is nothing
elements_past : (es : List Element) (e : ℕ) → 96 ≤ e → get_or (element_sheets es) e no_element_sheet ≡ no_element_sheet
unfolding element_sheets
elements_past es e past =
    let long = length-map-range_with_len (element_sheet es) 0 96 in
    get_or_past (map (element_sheet es) (range_with_len 0 96)) e no_element_sheet (omega arith)

known_past : (es : List Element) (x : ℕ) → 64 ≤ x → get_or (known_of es) x false ≡ false
unfolding known_of
known_past es x past =
    let long = length-map-range_with_len (is_known es) 0 64 in
    get_or_past (map (is_known es) (range_with_len 0 64)) x false (omega arith)

-- an element that moves is a point or derailer
moves_moved : (es : List Element) (e : ℕ) (k : Kind) → (at es e).kind ≡ k → moves k ≡ true → Moved es e
moves_moved es e kind.Track is m = cc
moves_moved es e kind.Point is m = point is
moves_moved es e kind.Derailer is m = derailer is
moves_moved es e kind.Signal is m = cc
moves_moved es e kind.PlanEnd is m = cc

module _ (d : Drawing) (sound : SoundPlan d) where
  pub clear_exactly : ClearExactly d
  clear_exactly s r = (
    λ h. let told = accepting.clear_told (sheets_of d) s r h in (route_known d sound r told.0, told.1),
    λ b. accepting.clear_from (sheets_of d) s r (route_has d sound r b.0) b.1,
  )

  pub release_exactly : ReleaseExactly d
  release_exactly s r = (
    λ h.
        let told = accepting.release_told (sheets_of d) (plan_lawful d sound) s r h in
        let route : HasRoute d r = route_known d sound r told.0 in
        (route, told.1, λ x u. told.2 x (path_told d sound r x route u)),
    λ b.
        let sheet = route_sheet (sheets_of d) r in
        accepting.release_from (sheets_of d) s r (route_has d sound r b.0) b.1
        (λ x on.
        b.2 x
        (path_meant d sound r x b.0 (use_low d sound r x b.0 (or_left (use_of sheet x).path (use_of sheet x).overlap on)) on)),
  )

  -- the kind of any number's element, as the sheets tell it
  kind_any : (e : ℕ) → (element_of (sheets_of d) e).kind ≡ (at (elements_of d) e).kind
  kind_any e =
      ⊎_elim
      (λ (low : e < 96). kind_told d sound e low)
      (λ past.
      let few = sound.few_elements in
      ap (λ (x : ElementSheet). x.kind) (elements_past (elements_of d) e past)
      ∙ sym (ap (λ (x : Element). x.kind) (get_or_past (elements_of d) e no_element (omega arith))))
      (cases_lt e 96)

  moved_meant : (e : ℕ) → moves (element_of (sheets_of d) e).kind ≡ true → Moved (elements_of d) e
  moved_meant e m = moves_moved (elements_of d) e (element_of (sheets_of d) e).kind (sym (kind_any e)) m

  moved_told : (e : ℕ) → Moved (elements_of d) e → moves (element_of (sheets_of d) e).kind ≡ true
  moved_told e m = ap moves (kind_any e) ∙ moved_moves (elements_of d) e m

  section_meant : (x : ℕ) → has_section (sheets_of d) x ≡ true → HasSection d x
  section_meant x h =
      ⊎_elim
      (λ (low : x < 64).
      let some = (known_exact d sound x low).0 h in
      record { element = some.0; within = some.1; lies = some.2 })
      (λ past. absurd (both_ways (has_section (sheets_of d) x) (known_past (elements_of d) x past) h))
      (cases_lt x 64)

  section_told : (x : ℕ) → HasSection d x → has_section (sheets_of d) x ≡ true
  section_told x some =
      let low : x < 64 = (sound.elements.fields some.element some.within).section_low x some.lies in
      (known_exact d sound x low).1 (some.element, some.within, some.lies)

  pub event_meant : (v : Event) → is_event (sheets_of d) v ≡ true → OfThePlan d v
  event_meant (event.Report e v) h =
      let b = and_parts (moves (element_of (sheets_of d) e).kind) (ltb v 3) h in
      report (moved_meant e b.0) (ltb-true v 3 b.1)
  event_meant (event.Block e v) h =
      let b = and_parts (moves (element_of (sheets_of d) e).kind) (ltb v 2) h in
      block (moved_meant e b.0) (ltb-true v 2 b.1)
  event_meant (event.Lamp e v) h =
      let b = and_parts (is_signal (element_of (sheets_of d) e).kind) (ltb v 2) h in
      lamp (sym (kind_any e) ∙ signal_test (element_of (sheets_of d) e).kind b.0) (ltb-true v 2 b.1)
  event_meant (event.Occupation x v) h =
      let b = and_parts (has_section (sheets_of d) x) (ltb v 2) h in
      occupation (section_meant x b.0) (ltb-true v 2 b.1)

  pub event_told : (v : Event) → OfThePlan d v → is_event (sheets_of d) v ≡ true
  event_told (event.Report e v) (report m l) =
      and_from (moves (element_of (sheets_of d) e).kind) (ltb v 3) (moved_told e m) (lt-ltb v 3 l)
  event_told (event.Block e v) (block m l) =
      and_from (moves (element_of (sheets_of d) e).kind) (ltb v 2) (moved_told e m) (lt-ltb v 2 l)
  event_told (event.Lamp e v) (lamp i l) =
      and_from (is_signal (element_of (sheets_of d) e).kind) (ltb v 2) (ap is_signal (kind_any e ∙ i)) (lt-ltb v 2 l)
  event_told (event.Occupation x v) (occupation s l) =
      and_from (has_section (sheets_of d) x) (ltb v 2) (section_told x s) (lt-ltb v 2 l)

  pub event_exactly : EventExactly d
  event_exactly s v = (
    λ h. event_meant v (passes_test (is_event (sheets_of d) v) None refusal.NotOfThePlan h).0,
    λ o. cond-true (is_event (sheets_of d) v) None (Some refusal.NotOfThePlan) (event_told v o),
  )
