-- The law of every run, and that every accepted act leaves all settled.
use Rattle.std.proofs.Common.{◌≡◌, ℕ, zero, suc, ◌+◌, Bool, true, false, cond, not, ◌&&◌, eqb, ◌≢◌, ◌⊎◌, List, [], ◌∷◌, get_or, take, Some, None, Ok, Err, fold, Option, Result, sym, refl, ap, ◌∙◌, subst, inl, inr, ⊎_elim, add-one, arith}
use Rattle.std.proofs.lemmas.Bool.{cases_eq, or_cases, and_parts, both_ways, false≢true, true≢false, not-true, eqb-true}
use Rattle.std.proofs.lemmas.List.Sums.{fold_more}
use Rattle.layout.specs.Kinds.{is_signal}
use Rattle.layout.specs.declared.position.Position.{Position}
use Rattle.layout.specs.declared.position.Position.TheVariants as position
use Rattle.walks.specs.Exactly.{In}
use Rattle.field.specs.Meaning.{Meaning, report_of, burning_of, order_of, occupied_of}
use Rattle.refusals.specs.declared.refusal.Refusal.{Refusal}
use Rattle.refusals.specs.declared.refusal.Refusal.TheVariants as refusal
use Rattle.sheets.specs.declared.sheet.Sheets.{Sheets}
use Rattle.std.specs.List.{list_all}
use Rattle.sheets.specs.Reading.{route_count, route_sheet, has_route, need_of, request_of, wanted_by, used_by, element_of, moves}
use Rattle.holds.specs.declared.aspect.Aspect.{Aspect}
use Rattle.holds.specs.declared.hold.Hold.{Hold}
use Rattle.holds.specs.declared.interlocking.Interlocking.{Interlocking}
use Rattle.holds.specs.declared.state.RouteState.TheVariants.{Absent, Waiting, Clear, Dropped}
use Rattle.holds.specs.Positions.{same, reports}
use Rattle.holds.specs.RouteSets.{contains}
use Rattle.holds.specs.Holds.{free_hold, held_in}
use Rattle.holds.specs.States.{stands, is_clear, waits_again}
use Rattle.holds.specs.Interlockings.{hold_of, held_by, state_of, with_state}
use Rattle.holds.specs.Aspects.{permits, aspect_of}
use Rattle.holds.specs.Granting.{taken_up, tried_again, given_up}
use Rattle.readiness.specs.Readiness.{need_met, shields, request_met, want_met, is_free, lamp_proved, ready}
use Rattle.readiness.specs.Settling.{settled}
use Rattle.acts.specs.declared.act.Act.{Act}
use Rattle.acts.specs.declared.act.Act.TheVariants as act
use Rattle.acts.specs.Situations.{Situation, situation, opened}
use Rattle.acts.specs.Answers.{answer}
use Rattle.acts.specs.Acts.{after, settle, unless, performed, step_orders, orders_unless}
use Rattle.runlaws.specs.Lawful.{Lawful}
use Rattle.runlaws.specs.SheetLaw.{run, Standing, Holds, Passes, Shields, Permissive, Apart, Guarded, Safe, SafeRun, UntilReleased, LawOfRuns}
use Rattle.runlaws.specs.Ready.{LeftSettled, SettledAfter}
use Rattle.runlaws.proofs.Lists.{list_all_each}
use Rattle.runlaws.proofs.Settles.{clear_is}
use Rattle.runlaws.proofs.Readying.{permits_some, rested}
use Rattle.runlaws.proofs.Granted.{same_true, grown_requests, shrunk_all}
use Rattle.runlaws.proofs.Coherent.{Sound, Coherent, opened_coherent, performed_coherent, set_accepted, grown_set, release_route, state_which, route_counts}
use Rattle.runlaws.proofs.Ordering.{orders_held, order_stays, order_held, told_order}

-- what readiness says
pub reports_true : (o : Option Position) (p : Position) → reports o p ≡ true → o ≡ Some p
reports_true None p h = absurd (false≢true h)
reports_true (Some position.Plus) position.Plus h = refl
reports_true (Some position.Plus) position.Minus h = absurd (false≢true h)
reports_true (Some position.Minus) position.Plus h = absurd (false≢true h)
reports_true (Some position.Minus) position.Minus h = refl

pub held_told : (i : Interlocking) (r e : ℕ) (p : Position) → held_in (hold_of i e) r p ≡ true → (held_by i r e ≡ true) × ((hold_of i e).position ≡ p)
held_told i r e p h =
    let parts = and_parts (held_by i r e) (same (hold_of i e).position p) h in
    (parts.0, same_true (hold_of i e).position p parts.1)

module _ (t : Sheets) (law : Lawful t) (i : Interlocking) (m : Meaning) (r : ℕ) (route : has_route t r ≡ true) (good : ready t i m r ≡ true) where
  wants_part : list_all (want_met t (route_sheet t r) i m r) (wanted_by (route_sheet t r)) ≡ true
  wants_part =
      (and_parts (list_all (want_met t (route_sheet t r) i m r) (wanted_by (route_sheet t r)))
      (list_all (is_free m) (used_by (route_sheet t r)) && lamp_proved t i m (route_sheet t r).end_lamp) good).0

  frees_part : list_all (is_free m) (used_by (route_sheet t r)) ≡ true
  frees_part =
      let last = lamp_proved t i m (route_sheet t r).end_lamp in
      let frees = list_all (is_free m) (used_by (route_sheet t r)) in
      (and_parts frees last (and_parts (list_all (want_met t (route_sheet t r) i m r) (wanted_by (route_sheet t r))) (frees && last) good).1).0

  want_parts :
      (e : ℕ) → In e (wanted_by (route_sheet t r))
      → (need_met (element_of t e).kind i m r e (need_of (route_sheet t r) e) ≡ true)
      × (request_met (element_of t e).kind i m r e (request_of (route_sheet t r) e) ≡ true)
  want_parts e h =
      let k = (element_of t e).kind in
      let s = route_sheet t r in
      and_parts (need_met k i m r e (need_of s e)) (request_met k i m r e (request_of s e)) (list_all_each (want_met t s i m r) (wanted_by s) wants_part e h)

  need_told : (e : ℕ) (p : Position) → Passes t r e p → ((held_by i r e ≡ true) × ((hold_of i e).position ≡ p)) × (report_of m e ≡ Some p)
  need_told e p h =
      let k = (element_of t e).kind in
      let here : need_met k i m r e (Some p) ≡ true = subst (λ w. need_met k i m r e w ≡ true) h.0 (want_parts e (law.needed r e p route h.0).1).0 in
      ⊎_elim
      (λ (n : not (moves k) ≡ true). absurd (both_ways (moves k) (not-true (moves k) n) h.1))
      (λ (both : (held_in (hold_of i e) r p && reports (report_of m e) p) ≡ true).
      let parts = and_parts (held_in (hold_of i e) r p) (reports (report_of m e) p) both in
      (held_told i r e p parts.0, reports_true (report_of m e) p parts.1))
      (or_cases (not (moves k)) (held_in (hold_of i e) r p && reports (report_of m e) p) here)

  request_told : (e : ℕ) (p : Position) → Shields t r e p → ((held_by i r e ≡ true) × ((hold_of i e).position ≡ p)) × (shields (element_of t e).kind m e p ≡ true)
  request_told e p h =
      let k = (element_of t e).kind in
      let here : request_met k i m r e (Some p) ≡ true = subst (λ w. request_met k i m r e w ≡ true) h (want_parts e (law.requested r e p route h).1).1 in
      let parts = and_parts (held_in (hold_of i e) r p) (shields k m e p) here in
      (held_told i r e p parts.0, parts.1)

  pub ready_guarded : Guarded t (situation i m) r
  ready_guarded =
      record {
        elements = need_told;
        sections = λ x u. not-true (occupied_of m x) (list_all_each (is_free m) (used_by (route_sheet t r)) frees_part x (law.used r x route u).1);
        held = λ e p h. (request_told e p h).0;
        reported = λ e p h mv. reports_true (report_of m e) p (subst (λ b. cond b (reports (report_of m e) p) (burning_of m e) ≡ true) mv (request_told e p h).1);
        burning = λ e p h mv. subst (λ b. cond b (reports (report_of m e) p) (burning_of m e) ≡ true) mv (request_told e p h).1;
      }

abbrev answered : Result Aspect Refusal → Bool
answered (Ok v) = permits v
answered (Err x) = false

shows_permissive : (b : Bool) (x v : Aspect) → cond b (Ok x) (Err refusal.NotOfThePlan) ≡ Ok v → permits v ≡ true → permits x ≡ true
shows_permissive true x v e h = ap answered e ∙ h
shows_permissive false x v e h = absurd (false≢true (ap answered e ∙ h))

module _ (t : Sheets) (law : Lawful t) (s : Situation) (c : Coherent t s) where
  -- one signal starts one standing route
  pub starts_one : (a b : ℕ) → a ≢ b → Standing s a → Standing s b → (route_sheet t a).first ≢ (route_sheet t b).first
  starts_one a b ne sa sb same =
      let shared = law.starts a b (c.sound.routes a sa) (c.sound.routes b sb) ne same in
      ⊎_elim shared.1.2 shared.1.3 (c.sound.apart a b ne sa sb shared.0 shared.1.0 shared.1.1)

  -- a permissive aspect at the first signal of a standing route is its own
  own_aspect : (a : ℕ) → Standing s a → Permissive t s a → state_of s.inner a ≡ Clear
  own_aspect a st shows =
      let i = s.inner in
      let first = (route_sheet t a).first in
      let q = permits_some t i first (route_count t) (shows_permissive (is_signal (element_of t first).kind) (aspect_of t i first) shows.0 shows.1.0 shows.1.1) in
      let parts = and_parts (is_clear (state_of i q.0)) (eqb (route_sheet t q.0).first first) q.1.1 in
      let clear : state_of i q.0 ≡ Clear = clear_is (state_of i q.0) parts.0 in
      ⊎_elim
      (λ (one : q.0 ≡ a). subst (λ x. state_of i x ≡ Clear) one clear)
      (λ (ne : q.0 ≢ a). absurd (starts_one q.0 a ne (ap stands clear) st (eqb-true (route_sheet t q.0).first first parts.1)))
      (cases_eq q.0 a)

  safe_guarded : (a : ℕ) → Standing s a → Permissive t s a → Guarded t s a
  safe_guarded a st shows = ready_guarded t law s.inner s.meant a (c.sound.routes a st) (c.clear a (own_aspect a st shows))

  safe_apart : (a b : ℕ) → a ≢ b → Standing s a → Standing s b → Apart t s a b
  safe_apart a b ne sa sb = record { sections = c.sound.apart a b ne sa sb; positions = λ e p q ha hb. sym ha.1 ∙ hb.1 }

-- what a route holds, an accepted act leaves to it, unless it releases that route
kept_after :
    (t : Sheets) → Lawful t → (s : Situation) (a : Act) → Sound t s.inner → answer t s a ≡ None → (q : ℕ) → stands (state_of (after t s a).inner q) ≡ true
    → (e : ℕ) → held_by s.inner q e ≡ true
    → (held_by (after t s a).inner q e ≡ true) × ((hold_of (after t s a).inner e).position ≡ (hold_of s.inner e).position)
kept_after t law s (act.Set r) sound h q st e held = (grown_set t s.inner r (set_accepted t s r h)).kept q e held
kept_after t law s (act.Clear r) sound h q st e held =
    (grown_requests (route_sheet t r) r (wanted_by (route_sheet t r)) (with_state s.inner r (waits_again (state_of s.inner r)))).kept q e held
kept_after t law s (act.Release r) sound h q st e held =
    let i = s.inner in
    let out = with_state i r Absent in
    let g = shrunk_all out r 96 in
    let now : state_of (given_up r i) q ≡ state_of out q = ap (λ ss. get_or ss q Absent) g.states in
    ⊎_elim
    (λ (o : (q ≢ r) × (state_of out q ≡ state_of i q)). (g.others q e o.0 ∙ held, g.positions e))
    (λ (o : (q ≡ r) × (state_of out q ≡ Absent)). absurd (false≢true (sym (ap stands (now ∙ o.1)) ∙ st)))
    (state_which i r Absent (omega (arith, law.few, route_counts t r (release_route t s r h))) sound.states q)
kept_after t law s (act.Tell v) sound h q st e held = (held, refl)

-- the orders of an act's own step
step_held :
    (t : Sheets) (s : Situation) (a : Act) (e : ℕ) (q : Position) → In (record { element = e; position = q }) (step_orders t s a)
    → q ≡ (hold_of (after t s a).inner e).position
step_held t s (act.Set r) e q h = orders_held t (taken_up (route_sheet t r) r s.inner) r s.meant 96 (record { element = e; position = q }) h
step_held t s (act.Clear r) e q h = orders_held t (tried_again (route_sheet t r) r s.inner) r s.meant 96 (record { element = e; position = q }) h
step_held t s (act.Release r) e q h = absurd h
step_held t s (act.Tell v) e q h = absurd h

step_stays :
    (t : Sheets) (s : Situation) (a : Act) (e : ℕ) → ((q : Position) → In (record { element = e; position = q }) (step_orders t s a) → ⊥)
    → order_of (after t s a).meant e ≡ order_of s.meant e
step_stays t s (act.Set r) e none = order_stays t (taken_up (route_sheet t r) r s.inner) r s.meant 96 e none
step_stays t s (act.Clear r) e none = order_stays t (tried_again (route_sheet t r) r s.inner) r s.meant 96 e none
step_stays t s (act.Release r) e none = refl
step_stays t s (act.Tell v) e none = told_order s.meant v e

step_answers :
    (t : Sheets) (s : Situation) (a : Act) (e : ℕ)
    → (order_of (after t s a).meant e ≡ order_of s.meant e) ⊎ (order_of (after t s a).meant e ≡ Some (hold_of (after t s a).inner e).position)
step_answers t s (act.Set r) e = order_held t (taken_up (route_sheet t r) r s.inner) r s.meant 96 e
step_answers t s (act.Clear r) e = order_held t (tried_again (route_sheet t r) r s.inner) r s.meant 96 e
step_answers t s (act.Release r) e = inl refl
step_answers t s (act.Tell v) e = inl (told_order s.meant v e)

undisturbed_unless :
    (t : Sheets) → Lawful t → (s : Situation) (a : Act) → Sound t s.inner → (o : Option Refusal) → answer t s a ≡ o → (r : ℕ)
    → Standing (unless o t s (after t s a)) r
    → ((e : ℕ) (p : Position) → Holds s r e p → Holds (unless o t s (after t s a)) r e p)
    × ((e : ℕ) (p q : Position) → Holds (unless o t s (after t s a)) r e p → In (record { element = e; position = q }) (orders_unless o (step_orders t s a)) → q ≡ p)
    × ((e : ℕ) → ((q : Position) → In (record { element = e; position = q }) (orders_unless o (step_orders t s a)) → ⊥) → order_of (unless o t s (after t s a)).meant e ≡ order_of s.meant e)
    × ((e : ℕ) (p : Position) → Holds (unless o t s (after t s a)) r e p → (order_of (unless o t s (after t s a)).meant e ≡ order_of s.meant e) ⊎ (order_of (unless o t s (after t s a)).meant e ≡ Some p))
undisturbed_unless t law s a sound None h r st =
    let i = (after t s a).inner in
    let m = (after t s a).meant in
    let end = rested t m i in
    let there : stands (state_of i r) ≡ true = sym (end.stand r) ∙ st in
    let same_hold : (e : ℕ) → hold_of (settled t m i) e ≡ hold_of i e = λ e. ap (λ (hs : List Hold). get_or hs e free_hold) end.holds in (
      λ e p k.
          let stays = kept_after t law s a sound h r there e k.0 in
          (ap (λ (x : Hold). contains x.routes r) (same_hold e) ∙ stays.0, ap (λ (x : Hold). x.position) (same_hold e) ∙ (stays.1 ∙ k.1)),
      λ e p q k o. step_held t s a e q o ∙ (sym (ap (λ (x : Hold). x.position) (same_hold e)) ∙ k.1),
      λ e none. step_stays t s a e none,
      λ e p k.
          ⊎_elim
          (λ (o : order_of m e ≡ order_of s.meant e). inl o)
          (λ (o : order_of m e ≡ Some (hold_of i e).position). inr (o ∙ ap Some (sym (ap (λ (x : Hold). x.position) (same_hold e)) ∙ k.1)))
          (step_answers t s a e),
    )
undisturbed_unless t law s a sound (Some x) h r st = (λ e p k. k, λ e p q k o. absurd o, λ e none. refl, λ e p k. inl refl)

safe : (t : Sheets) → Lawful t → (s : Situation) (a : Act) → Coherent t s → Safe t s a (performed t s a)
safe t law s a c =
    let next = performed_coherent t law s a c in
    record {
      apart = safe_apart t law (performed t s a) next;
      guarded = safe_guarded t law (performed t s a) next;
      undisturbed = λ r st.
          let u = undisturbed_unless t law s a c.sound (answer t s a) refl r st in
          record { kept = u.0; orders = u.1; others = u.2; answers = u.3 };
    }

pub always :
    {S A : Type 0} (P : S → Type 0) (f : S → A → S)
    → ((s : S) (a : A) → P s → P (f s a)) → (xs : List A) (s : S) → P s → (n : ℕ) → P (fold f s (take n xs))
always P f keeps xs s p zero = p
always P f keeps [] s p (suc n) = p
always P f keeps (x ∷ xs) s p (suc n) = always P f keeps xs (f s x) (keeps s x p) n

-- every situation of a run is coherent
pub run_coherent : (t : Sheets) → Lawful t → (m : Meaning) (acts : List Act) (n : ℕ) → Coherent t (run t m (take n acts))
run_coherent t law m acts n = always (Coherent t) (performed t) (performed_coherent t law) acts (opened m) (opened_coherent t m) n

safe_run : (t : Sheets) → Lawful t → (m : Meaning) (acts : List Act) → SafeRun t m acts
safe_run t law m acts n below =
    let s = run t m (take n acts) in
    let a = get_or acts n (act.Set 0) in
    let next : run t m (take (n + 1) acts) ≡ performed t s a = fold_more (performed t) (opened m) acts n (act.Set 0) below in
    subst (λ x. Safe t s a x) (sym next) (safe t law s a (run_coherent t law m acts n))

until_released : (t : Sheets) → Lawful t → (m : Meaning) (acts : List Act) → UntilReleased t m acts
until_released t law m acts a n zero l few st e p h = subst (λ x. Holds (run t m (take x acts)) a e p) (let i : n ≡ 0 = omega arith in i) h
until_released t law m acts a n (suc k) l few st e p h =
    ⊎_elim
    (λ (i : n ≡ suc k). subst (λ x. Holds (run t m (take x acts)) a e p) i h)
    (λ ne.
    let before : Holds (run t m (take k acts)) a e p = until_released t law m acts a n k (omega arith) (omega arith) (λ j x y. st j x (omega arith)) e p h in
    let up : Standing (run t m (take (k + 1) acts)) a = rw add-one (st (suc k) (omega arith) (omega arith)) in
    rw add-one at (((safe_run t law m acts k (omega arith)).undisturbed a up).kept e p before))
    (cases_eq n (suc k))

pub law_holds : LawOfRuns
law_holds t law m acts = (safe_run t law m acts, until_released t law m acts)

pub settled_after : SettledAfter
settled_after t law m acts n a h =
    let s = run t m (take n acts) in
    let step = after t s a in
    let is : performed t s a ≡ settle t step = ap (λ o. unless o t s step) h in
    let end = rested t step.meant step.inner in
    let next = performed_coherent t law s a (run_coherent t law m acts n) in
    subst (LeftSettled t step.inner) (sym is)
    (record {
      clear = subst (λ (x : Situation). (r : ℕ) → state_of x.inner r ≡ Clear → ready t x.inner x.meant r ≡ true) is next.clear;
      waiting = λ r route w. end.waiting r (route_counts t r route) w;
      dropped = λ r d ne.
          ⊎_elim
          (λ (o : state_of (settle t step).inner r ≡ state_of step.inner r). absurd (ne (sym o ∙ d)))
          (λ (o : ((state_of step.inner r ≡ Clear) × (state_of (settle t step).inner r ≡ Dropped)) ⊎ ((state_of step.inner r ≡ Waiting) × (state_of (settle t step).inner r ≡ Clear))).
          ⊎_elim
          (λ (c : (state_of step.inner r ≡ Clear) × (state_of (settle t step).inner r ≡ Dropped)). c.0)
          (λ (c : (state_of step.inner r ≡ Waiting) × (state_of (settle t step).inner r ≡ Clear)). absurd (true≢false (ap is_clear (sym c.1 ∙ d))))
          o)
          (end.changes r);
    })
