-- A route is ready exactly if it is guarded and its end lamp is proved.
use Rattle.std.proofs.Common.{◌≡◌, ℕ, true, false, not, ◌&&◌, ◌⊎◌, Some, None, Option, sym, refl, ap, ◌∙◌, ⊎_elim}
use Rattle.std.proofs.lemmas.Bool.{cases_Bool, and_parts, and_from, or_cases, or_left, or_right, not_from_false, cond-true, cond-false}
use Rattle.layout.specs.declared.position.Position.{Position}
use Rattle.layout.specs.declared.position.Position.TheVariants as position
use Rattle.field.specs.Meaning.{Meaning, report_of, burning_of, occupied_of}
use Rattle.sheets.specs.declared.sheet.Sheets.{Sheets}
use Rattle.std.specs.List.{list_all}
use Rattle.sheets.specs.Reading.{route_sheet, has_route, need_of, request_of, wanted_by, used_by, element_of, moves}
use Rattle.holds.specs.declared.interlocking.Interlocking.{Interlocking}
use Rattle.holds.specs.Positions.{same, reports}
use Rattle.holds.specs.Holds.{held_in}
use Rattle.holds.specs.Interlockings.{hold_of, held_by}
use Rattle.holds.specs.Aspects.{permissive}
use Rattle.readiness.specs.Readiness.{need_met, shields, request_met, want_met, is_free, lamp_proved, ready}
use Rattle.acts.specs.Situations.{situation}
use Rattle.runlaws.specs.Lawful.{Lawful}
use Rattle.runlaws.specs.SheetLaw.{Guarded}
use Rattle.runlaws.specs.Ready.{ReadyExactly}
use Rattle.runlaws.proofs.Lists.{list_all_from}
use Rattle.runlaws.proofs.Granted.{same_self}
use Rattle.runlaws.proofs.Runs.{ready_guarded}

reports_self : (p : Position) → reports (Some p) p ≡ true
reports_self position.Plus = refl
reports_self position.Minus = refl

reports_from : (o : Option Position) (p : Position) → o ≡ Some p → reports o p ≡ true
reports_from o p h = ap (λ x. reports x p) h ∙ reports_self p

pub held_from : (i : Interlocking) (r e : ℕ) (p : Position) → (held_by i r e ≡ true) × ((hold_of i e).position ≡ p) → held_in (hold_of i e) r p ≡ true
held_from i r e p h = and_from (held_by i r e) (same (hold_of i e).position p) h.0 (ap (λ x. same x p) h.1 ∙ same_self p)

lamp_told : (t : Sheets) (i : Interlocking) (m : Meaning) (o : Option ℕ) → lamp_proved t i m o ≡ true → (l : ℕ) → o ≡ Some l → (burning_of m l ≡ true) ⊎ (permissive t i l ≡ true)
lamp_told t i m o h l is = or_cases (burning_of m l) (permissive t i l) (sym (ap (lamp_proved t i m) is) ∙ h)

lamp_from : (t : Sheets) (i : Interlocking) (m : Meaning) (o : Option ℕ) → ((l : ℕ) → o ≡ Some l → (burning_of m l ≡ true) ⊎ (permissive t i l ≡ true)) → lamp_proved t i m o ≡ true
lamp_from t i m None h = refl
lamp_from t i m (Some l) h =
    ⊎_elim
    (λ (b : burning_of m l ≡ true). or_left (burning_of m l) (permissive t i l) b)
    (λ (p : permissive t i l ≡ true). or_right (burning_of m l) (permissive t i l) p)
    (h l refl)

module _ (t : Sheets) (i : Interlocking) (m : Meaning) (r : ℕ) (good : Guarded t (situation i m) r) where
  need_from : (e : ℕ) (w : Option Position) → need_of (route_sheet t r) e ≡ w → need_met (element_of t e).kind i m r e w ≡ true
  need_from e None is = refl
  need_from e (Some p) is =
      let mv = moves (element_of t e).kind in
      let rest = held_in (hold_of i e) r p && reports (report_of m e) p in
      ⊎_elim
      (λ (y : mv ≡ true).
      let told = good.elements e p (is, y) in
      or_right (not mv) rest (and_from (held_in (hold_of i e) r p) (reports (report_of m e) p) (held_from i r e p told.0) (reports_from (report_of m e) p told.1)))
      (λ (n : mv ≡ false). or_left (not mv) rest (not_from_false mv n))
      (cases_Bool mv)

  request_from : (e : ℕ) (w : Option Position) → request_of (route_sheet t r) e ≡ w → request_met (element_of t e).kind i m r e w ≡ true
  request_from e None is = refl
  request_from e (Some p) is =
      let mv = moves (element_of t e).kind in
      and_from (held_in (hold_of i e) r p) (shields (element_of t e).kind m e p) (held_from i r e p (good.held e p is))
      (⊎_elim
      (λ (y : mv ≡ true). cond-true mv (reports (report_of m e) p) (burning_of m e) y ∙ reports_from (report_of m e) p (good.reported e p is y))
      (λ (n : mv ≡ false). cond-false mv (reports (report_of m e) p) (burning_of m e) n ∙ good.burning e p is n)
      (cases_Bool mv))

  guarded_ready : Lawful t → has_route t r ≡ true → lamp_proved t i m (route_sheet t r).end_lamp ≡ true → ready t i m r ≡ true
  guarded_ready law route lamp =
      let s = route_sheet t r in
      let wants = list_all (want_met t s i m r) (wanted_by s) in
      let frees = list_all (is_free m) (used_by s) in
      let last = lamp_proved t i m s.end_lamp in
      and_from wants (frees && last)
      (list_all_from (want_met t s i m r) (wanted_by s)
      (λ e _.
      let k = (element_of t e).kind in
      and_from (need_met k i m r e (need_of s e)) (request_met k i m r e (request_of s e)) (need_from e (need_of s e) refl) (request_from e (request_of s e) refl)))
      (and_from frees last
      (list_all_from (is_free m) (used_by s) (λ x h. not_from_false (occupied_of m x) (good.sections x (law.listed r x route h))))
      lamp)

pub ready_exactly : ReadyExactly
ready_exactly t law i m r route =
    let s = route_sheet t r in
    let wants = list_all (want_met t s i m r) (wanted_by s) in
    let frees = list_all (is_free m) (used_by s) in
    let last = lamp_proved t i m s.end_lamp in (
      λ good.
          record {
            guarded = ready_guarded t law i m r route good;
            lamp = lamp_told t i m s.end_lamp (and_parts frees last (and_parts wants (frees && last) good).1).1;
          },
      λ good. guarded_ready t i m r good.guarded law route (lamp_from t i m s.end_lamp good.lamp),
    )
