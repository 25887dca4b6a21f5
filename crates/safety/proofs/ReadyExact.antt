-- The station finds a route of a checked plan ready exactly if the route is guarded and the lamp at its end is proved.
use Rattle.std.proofs.Common.{◌≡◌, ℕ, ◌<◌, true, false, List, length, Some, Ok, Err, sym, ap, ◌∙◌, subst, inl, inr, ⊎_elim, arith}
use Rattle.std.proofs.lemmas.Bool.{both_ways, cond-true}
use Rattle.layout.specs.declared.drawing.Drawing.{Drawing}
use Rattle.layout.specs.declared.element.Element.{Element}
use Rattle.layout.specs.declared.position.Position.{Position}
use Rattle.layout.specs.declared.route.Route.{Route}
use Rattle.layout.specs.Kinds.{is_sectioned, is_signal}
use Rattle.layout.specs.Ports.{at}
use Rattle.layout.specs.Uses.{path_of, Uses}
use Rattle.paths.specs.Sound.{last}
use Rattle.walks.specs.Walks.{Requested}
use Rattle.walks.proofs.Flanks.{SoundRoute, sound_route}
use Rattle.refusals.specs.declared.refusal.Refusal.TheVariants as refusal
use Rattle.sheets.specs.declared.sheet.RouteSheet.{RouteSheet}
use Rattle.sheets.specs.Reading.{route_sheet, need_of, request_of, element_of, moves}
use Rattle.sheets.specs.Sheets.{sheets_of}
use Rattle.plan.specs.Flanks.{route_of}
use Rattle.plan.specs.Sound.{SoundPlan}
use Rattle.sheetlaws.specs.Routes.{elements_of, HasRoute}
use Rattle.sheetlaws.specs.Ends.{ProvesLamp}
use Rattle.sheetlaws.specs.Needed.{Needs, starts, passes_in_path, passes_in_overlap, derails}
use Rattle.sheetlaws.proofs.EndsExact.{ends_exact}
use Rattle.sheetlaws.proofs.RequestsExact.{sheet_requests_exact}
use Rattle.field.specs.Meaning.{report_of, burning_of}
use Rattle.holds.specs.Aspects.{permits, aspect_of, permissive}
use Rattle.acts.specs.Situations.{Situation}
use Rattle.acts.specs.Questions.{aspect_answer}
use Rattle.runlaws.specs.SheetLaw as sheet
use Rattle.runlaws.specs.Ready.{ReadyIn}
use Rattle.runlaws.proofs.ReadyExact as over
use Rattle.safety.specs.Words.{Holds, Moved, point, derailer, Shielding, reported, burning, SignalPermissive}
use Rattle.safety.specs.Law.{Guarded}
use Rattle.safety.specs.Ready.{Ready, ReadyExactly}
use Rattle.safety.proofs.PlanLawful.{same_sheet, route_has, plan_lawful}
use Rattle.safety.proofs.Passed.{moved_moves, kind_told, need_told}
use Rattle.safety.proofs.PlanLaw.{guarded}
use Rattle.safety.proofs.SetExact.{need_low, need_meant, use_meant}

module _ (es : List Element) (r : Route) (route : SoundRoute es r) (e : ℕ) where
  -- a route uses what moves among the elements that it needs
  needed_used : {p : Position} → Needs es r e p → moves (at es e).kind ≡ true → Uses es r e × Moved es e
  needed_used (starts i) m =
      absurd (both_ways (moves (at es e).kind) (sym (ap (λ (n : ℕ). moves (at es n).kind) i) ∙ ap moves route.path.starts_at_signal) m)
  needed_used (passes_in_path f) m =
      (inl (record { at_place = f.at_place; between = f.between; sectioned = ap is_sectioned f.point }), point f.point)
  needed_used (passes_in_overlap f) m = (
    inr
        (record {
          at_place = f.at_place;
          within = omega (arith, f.between.within);
          is = f.between.is;
          sectioned = ap is_sectioned f.point;
        }),
    point f.point,
  )
  needed_used (derails u k) m = (u, derailer k)

-- what shields in a position is reported in it if it moves, and burns if not
module _ (es : List Element) (s : Situation) (e : ℕ) (p : Position) where
  shield_reported : Shielding es s.meant e p → moves (at es e).kind ≡ true → report_of s.meant e ≡ Some p
  shield_reported (reported m r) t = r
  shield_reported (burning i b) t = absurd (both_ways (moves (at es e).kind) (ap moves i) t)

  shield_burning : Shielding es s.meant e p → moves (at es e).kind ≡ false → burning_of s.meant e ≡ true
  shield_burning (reported m r) f = absurd (both_ways (moves (at es e).kind) f (moved_moves es e m))
  shield_burning (burning i b) f = b

module _ (d : Drawing) (sound : SoundPlan d) (s : Situation) (a : ℕ) (h : HasRoute d a) where
  route : SoundRoute (elements_of d) (route_of d a)
  route = sound_route (elements_of d) (route_of d a) (sound.paths a h) (sound.overlaps a h)

  module _ (e : ℕ) (p : Position) (asked : request_of (route_sheet (sheets_of d) a) e ≡ Some p) where
    request_low : e < 96
    request_low = ((plan_lawful d sound).requested a e p (route_has d sound a h) asked).0

    -- what the sheet of a route requests, the route requests
    pub request_meant : Requested (elements_of d) (route_of d a) e p
    request_meant =
        (sheet_requests_exact d sound a h e request_low p).0
        (subst (λ (t : RouteSheet). request_of t e ≡ Some p) (same_sheet d sound a h) asked)

  module _ (g : Guarded d s a) where
    element_guarded : (e : ℕ) (p : Position) → sheet.Passes (sheets_of d) a e p → Holds s a e p × (report_of s.meant e ≡ Some p)
    element_guarded e p n =
        let low : e < 96 = need_low d sound a e p h n.0 in
        let moved : moves (at (elements_of d) e).kind ≡ true = sym (ap moves (kind_told d sound e low)) ∙ n.1 in
        let used = needed_used (elements_of d) (route_of d a) route e (need_meant d sound a e p h n.0) moved in
        let met = g.elements e used.0 used.1 in
        let told : need_of (route_sheet (sheets_of d) a) e ≡ Some met.0 = need_told d sound a e met.0 h low met.1 in
        let one : met.0 ≡ p = let same = n.0 in cc in
        subst (λ (q : Position). Holds s a e q × (report_of s.meant e ≡ Some q)) one (met.2, met.3)

    guarded_told : sheet.Guarded (sheets_of d) s a
    guarded_told = record {
      elements = element_guarded;
      sections = λ x u. g.sections x (use_meant d sound a x h u);
      held = λ e p q. (g.flanks e p (request_meant e p q)).0;
      reported = λ e p q t.
          shield_reported (elements_of d) s e p (g.flanks e p (request_meant e p q)).1
          (sym (ap moves (kind_told d sound e (request_low e p q))) ∙ t);
      burning = λ e p q f.
          shield_burning (elements_of d) s e p (g.flanks e p (request_meant e p q)).1
          (sym (ap moves (kind_told d sound e (request_low e p q))) ∙ f);
    }

  module _ (l : ℕ) (proves : ProvesLamp d a l) where
    -- a signal whose lamp is to be proved is asked for its aspect
    lamp_answered : aspect_answer (sheets_of d) s.inner l ≡ Ok (aspect_of (sheets_of d) s.inner l)
    lamp_answered =
        let low : l < length (elements_of d) =
        subst (λ (n : ℕ). n < length (elements_of d)) proves.at_end.ends
        (route.path.within (last (path_of (route_of d a))) (omega (arith, route.path.body.2))) in
        let few = sound.few_elements in
        cond-true (is_signal (element_of (sheets_of d) l).kind) (Ok (aspect_of (sheets_of d) s.inner l)) (Err refusal.NotOfThePlan)
        (ap is_signal (kind_told d sound l (omega arith) ∙ proves.at_end.signal))

    permissive_meant : permissive (sheets_of d) s.inner l ≡ true → SignalPermissive d s l
    permissive_meant t = (aspect_of (sheets_of d) s.inner l, lamp_answered, t)

    permissive_told : SignalPermissive d s l → permissive (sheets_of d) s.inner l ≡ true
    permissive_told shows =
        let answered = lamp_answered in
        let says = shows.1 in
        let one : aspect_of (sheets_of d) s.inner l ≡ shows.0 = cc in
        ap permits one ∙ shows.2

  ready_meant : ReadyIn (sheets_of d) s.inner s.meant a → Ready d s a
  ready_meant r = record {
    guarded = guarded d sound s a h r.guarded;
    lamp = λ l proves.
        ⊎_elim
        (λ (b : burning_of s.meant l ≡ true). inl b)
        (λ (t : permissive (sheets_of d) s.inner l ≡ true). inr (permissive_meant l proves t))
        (r.lamp l
        (ap (λ (t : RouteSheet). t.end_lamp) (same_sheet d sound a h) ∙ ((ends_exact d sound a h).2 l).1 proves));
  }

  ready_told : Ready d s a → ReadyIn (sheets_of d) s.inner s.meant a
  ready_told r = record {
    guarded = guarded_told r.guarded;
    lamp = λ l is.
        let proves : ProvesLamp d a l = ((ends_exact d sound a h).2 l).0 (sym (ap (λ (t : RouteSheet). t.end_lamp) (same_sheet d sound a h)) ∙ is) in
        ⊎_elim
        (λ (b : burning_of s.meant l ≡ true). inl b)
        (λ (shows : SignalPermissive d s l). inr (permissive_told l proves shows))
        (r.lamp l proves);
  }

pub ready_exactly : (d : Drawing) → SoundPlan d → ReadyExactly d
ready_exactly d sound s a h =
    let both = over.ready_exactly (sheets_of d) (plan_lawful d sound) s.inner s.meant a (route_has d sound a h) in
    ((λ t. ready_meant d sound s a h (both.0 t)), (λ r. both.1 (ready_told d sound s a h r)))
