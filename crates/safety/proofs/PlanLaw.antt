-- The law over runs in the words of the subject, from the law over sheets.
use Rattle.std.proofs.Common.{◌≡◌, ℕ, ◌+◌, ◌<◌, ◌⊎◌, List, get_or, take, Some, sym, refl, ap, ◌∙◌, subst, inl, inr, ⊎_elim}
use Rattle.std.proofs.lemmas.Bool.{both_ways}
use Rattle.layout.specs.declared.drawing.Drawing.{Drawing}
use Rattle.layout.specs.declared.element.Element.{Element}
use Rattle.layout.specs.declared.kind.Kind.{Kind}
use Rattle.layout.specs.declared.kind.Kind.TheVariants as kind
use Rattle.layout.specs.declared.position.Position.{Position}
use Rattle.layout.specs.declared.route.Route.{Route}
use Rattle.layout.specs.Ports.{at}
use Rattle.walks.specs.Walks.{Requested, Able, derailer, signal, point}
use Rattle.walks.proofs.Exactly.{requests_exact}
use Rattle.walks.proofs.Flanks.{sound_route}
use Rattle.walks.proofs.Tables.{in_requests}
use Rattle.flank.specs.Protection.{route_marks}
use Rattle.sheets.specs.declared.sheet.RouteSheet.{RouteSheet}
use Rattle.sheets.specs.Reading.{route_sheet, request_of, on_path, moves}
use Rattle.sheets.specs.Sheets.{sheets_of}
use Rattle.plan.specs.Flanks.{route_of}
use Rattle.plan.specs.Sound.{SoundPlan}
use Rattle.sheetlaws.specs.Routes.{elements_of, HasRoute}
use Rattle.sheetlaws.specs.Ends.{first_element}
use Rattle.sheetlaws.proofs.EndsExact.{ends_exact}
use Rattle.sheetlaws.proofs.RequestsExact.{sheet_requests_exact}
use Rattle.field.specs.Meaning.{Meaning}
use Rattle.acts.specs.declared.act.Act.{Act}
use Rattle.acts.specs.declared.act.Act.TheVariants as act
use Rattle.acts.specs.Situations.{Situation}
use Rattle.acts.specs.Questions.{aspect_answer}
use Rattle.runlaws.specs.Lawful as over
use Rattle.runlaws.specs.SheetLaw as sheet
use Rattle.runlaws.proofs.Coherent.{Coherent}
use Rattle.runlaws.proofs.Runs.{starts_one, run_coherent, law_holds}
use Rattle.safety.specs.Words.{run, Standing, Excused, Moved, point as moved_point, derailer as moved_derailer, Shielding, reported, burning}
use Rattle.safety.specs.Law.{Apart, Guarded, Safe, Law}
use Rattle.safety.proofs.PlanLawful.{same_sheet, route_known, path_told, use_told, first_told, plan_lawful}
use Rattle.safety.proofs.Passed.{used_passed, moved_moves, used_low, kind_told, need_told}

module _ (d : Drawing) (sound : SoundPlan d) where
  pub excused : (a b x : ℕ) → HasRoute d a → HasRoute d b → over.Excused (sheets_of d) a b x → Excused d a b x
  excused a b x ha hb e = record {
    prolongs = ((ends_exact d sound a ha).1 (first_element d b)).0
        (sym (ap (λ (s : RouteSheet). s.last_signal) (same_sheet d sound a ha)) ∙ (e.0 ∙ ap Some (first_told d sound b hb)));
    overlap_only = λ u. both_ways (on_path (route_sheet (sheets_of d) a) x) e.1 (path_told d sound a x ha u);
  }

  apart : (s : Situation) (a b : ℕ) → HasRoute d a → HasRoute d b → sheet.Apart (sheets_of d) s a b → Apart d s a b
  apart s a b ha hb p = record {
    sections = λ x ua ub.
        ⊎_elim
        (λ (e : over.Excused (sheets_of d) a b x). inl (excused a b x ha hb e))
        (λ (e : over.Excused (sheets_of d) b a x). inr (excused b a x hb ha e))
        (p.sections x (use_told d sound a x ha ua) (use_told d sound b x hb ub));
    positions = p.positions;
  }

  pub requested_low : (a e : ℕ) (p : Position) → HasRoute d a → Requested (elements_of d) (route_of d a) e p → e < 96
  requested_low a e p h q =
      (in_requests (route_marks (elements_of d) (route_of d a)) 96 e p
      ((requests_exact (elements_of d) (route_of d a) sound.elements sound.few_elements (sound.paths a h) (sound.overlaps a h) e p).0 q)).0

  pub request_told : (a e : ℕ) (p : Position) → HasRoute d a → e < 96 → Requested (elements_of d) (route_of d a) e p
      → request_of (route_sheet (sheets_of d) a) e ≡ Some p
  request_told a e p h low q =
      subst (λ (s : RouteSheet). request_of s e ≡ Some p) (sym (same_sheet d sound a h)) ((sheet_requests_exact d sound a h e low p).1 q)

  module _ (s : Situation) (a : ℕ) (h : HasRoute d a) (g : sheet.Guarded (sheets_of d) s a) where
    -- an able element shields, once the sheet's request is met
    shielding : (e : ℕ) (p : Position) → e < 96 → request_of (route_sheet (sheets_of d) a) e ≡ Some p → (k : Kind) → (at (elements_of d) e).kind ≡ k
        → (Moved (elements_of d) e) ⊎ ((at (elements_of d) e).kind ≡ kind.Signal) → Shielding (elements_of d) s.meant e p
    shielding e p low r k is (inl m) = reported m (g.reported e p r (ap moves (kind_told d sound e low) ∙ moved_moves (elements_of d) e m))
    shielding e p low r k is (inr i) = burning i (g.burning e p r (ap moves (kind_told d sound e low ∙ i)))

    able_kind : (e : ℕ) (p : Position) (q : Requested (elements_of d) (route_of d a) e p)
        → (Moved (elements_of d) e) ⊎ ((at (elements_of d) e).kind ≡ kind.Signal)
    able_kind e p q = go q.able
      where
        here : (k : Kind) → (at (elements_of d) q.at_port.element).kind ≡ k → (at (elements_of d) e).kind ≡ k
        here k i = sym (ap (λ (n : ℕ). (at (elements_of d) n).kind) q.is) ∙ i

        go : {p : Position} → Able (elements_of d) (route_of d a) q.at_port p → (Moved (elements_of d) e) ⊎ ((at (elements_of d) e).kind ≡ kind.Signal)
        go (derailer i) = inl (moved_derailer (here kind.Derailer i))
        go (signal i m f) = inr (here kind.Signal i)
        go (point p i f g b) = inl (moved_point (here kind.Point i))

    pub guarded : Guarded d s a
    guarded = record {
      elements = λ e u m.
          let es : List Element = elements_of d in
          let r : Route = route_of d a in
          let low : e < 96 = used_low d sound a e h u in
          let passed = used_passed es sound.elements r (sound_route es r (sound.paths a h) (sound.overlaps a h)) e u m in
          let p = passed.0 in
          let met = g.elements e p (need_told d sound a e p h low passed.1, ap moves (kind_told d sound e low) ∙ moved_moves es e m) in
          (p, passed.1, met.0, met.1);
      sections = λ x u. g.sections x (use_told d sound a x h u);
      flanks = λ e p q.
          let low : e < 96 = requested_low a e p h q in
          let r = request_told a e p h low q in
          (g.held e p r, shielding e p low r (at (elements_of d) e).kind refl (able_kind e p q));
    }

  safe : (before : Situation) (a : Act) (after : Situation) → Coherent (sheets_of d) after → sheet.Safe (sheets_of d) before a after → Safe d before a after
  safe before a after c s =
      let known : (r : ℕ) → Standing after r → HasRoute d r = λ r st. route_known d sound r (c.sound.routes r st) in
      record {
        apart = λ r q ne sr sq. apart after r q (known r sr) (known q sq) (s.apart r q ne sr sq);
        guarded = λ r sr shows.
            guarded after r (known r sr)
            (s.guarded r sr
            (shows.0, (ap (aspect_answer (sheets_of d) after.inner) (first_told d sound r (known r sr)) ∙ shows.1, shows.2)));
        undisturbed = λ r sr.
            let u = s.undisturbed r sr in
            record { kept = u.kept; orders = u.orders; others = u.others; standing = u.answers };
        starts = λ r q ne sr sq same.
            starts_one (sheets_of d) (plan_lawful d sound) after c r q ne sr sq
            (first_told d sound r (known r sr) ∙ (same ∙ sym (first_told d sound q (known q sq))));
      }

  pub plan_law : (m : Meaning) (acts : List Act) → Law d m acts
  plan_law m acts =
      let t = sheets_of d in
      let law = plan_lawful d sound in
      let both = law_holds t law m acts in
      ((λ n below. safe (run d m (take n acts)) (get_or acts n (act.Set 0)) (run d m (take (n + 1) acts)) (run_coherent t law m acts (n + 1)) (both.0 n below)), both.1)
