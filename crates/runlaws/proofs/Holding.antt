-- Routes hold only what they need or request, in the position in which they want it.
use Rattle.std.proofs.Common.{◌≡◌, ℕ, zero, suc, ◌⊎◌, true, false, ◌≢◌, List, [], ◌∷◌, length, Some, None, fold, Option, sym, refl, ap, ◌∙◌, subst, inl, inr, ⊎_elim, arith}
use Rattle.std.proofs.lemmas.Bool.{cases_eq, cond_both, both_ways}
use Rattle.std.proofs.lemmas.List.{take_all}
use Rattle.layout.specs.declared.position.Position.{Position}
use Rattle.walks.specs.Exactly.{In}
use Rattle.field.specs.Meaning.{Meaning}
use Rattle.refusals.specs.declared.refusal.Refusal.{Refusal}
use Rattle.sheets.specs.declared.sheet.RouteSheet.{RouteSheet}
use Rattle.sheets.specs.declared.sheet.Sheets.{Sheets}
use Rattle.sheets.specs.Reading.{route_sheet, need_of, request_of, wanted_by}
use Rattle.holds.specs.declared.hold.Hold.{Hold}
use Rattle.holds.specs.declared.interlocking.Interlocking.{Interlocking}
use Rattle.holds.specs.declared.state.RouteState.TheVariants.{Absent, Waiting}
use Rattle.holds.specs.RouteSets.{contains, without_route}
use Rattle.holds.specs.Holds.{free_hold, granted, left_by, open_to}
use Rattle.holds.specs.States.{waits_again}
use Rattle.holds.specs.Interlockings.{idle, hold_of, held_by, state_of, with_state}
use Rattle.holds.specs.Granting.{joined_by, joined_if_any, joined_as, need_choice, needs_granted, grantable, request_choice, take_out, taken_out}
use Rattle.holds.specs.Refusing.{fits_hold, fits}
use Rattle.acts.specs.declared.act.Act.{Act}
use Rattle.acts.specs.declared.act.Act.TheVariants as act
use Rattle.acts.specs.Situations.{Situation, opened}
use Rattle.acts.specs.Answers.{answer}
use Rattle.acts.specs.Acts.{after, unless, performed}
use Rattle.runlaws.specs.SheetLaw.{run}
use Rattle.runlaws.proofs.Lists.{list_all_each, set_case}
use Rattle.runlaws.proofs.Readying.{rested}
use Rattle.runlaws.proofs.Granted.{grown_join, fits_still, shrunk_all}
use Rattle.runlaws.proofs.Coherent.{all_same, hold_idle, set_accepted}
use Rattle.runlaws.proofs.Runs.{always}

-- the sheet of a route needs or requests an element in a position
abbrev pub Wants : RouteSheet → ℕ → Position → Type 0
Wants s e p = (need_of s e ≡ Some p) ⊎ (request_of s e ≡ Some p)

-- whoever holds an element wants it in the position in which it is held
abbrev pub HeldAsWanted : Sheets → Interlocking → Type 0
HeldAsWanted t i = (q e : ℕ) → held_by i q e ≡ true → Wants (route_sheet t q) e (hold_of i e).position

-- a route that leaves holds leaves no more holders behind
held_out : (i : Interlocking) (r e q k : ℕ) → held_by (take_out i r e) q k ≡ true → held_by i q k ≡ true
held_out i r e q k h =
    let new = left_by (hold_of i e) r in
    let j = take_out i r e in
    ⊎_elim
    (λ (o : hold_of j k ≡ hold_of i k). sym (ap (λ (x : Hold). contains x.routes q) o) ∙ h)
    (λ (o : (k ≡ e) × (hold_of j k ≡ new)).
    let left : contains (without_route (hold_of i e).routes r) q ≡ true = sym (ap (λ (x : Hold). contains x.routes q) o.1) ∙ h in
    ⊎_elim
    (λ (same : contains (without_route (hold_of i e).routes r) q ≡ contains (hold_of i e).routes q).
    ap (λ (x : ℕ). held_by i q x) o.0 ∙ (sym same ∙ left))
    (λ (gone : (q ≡ r) × (contains (without_route (hold_of i e).routes r) q ≡ false)).
    absurd (both_ways (contains (without_route (hold_of i e).routes r) q) gone.1 left))
    (set_case (hold_of i e).routes.members r false false q))
    (set_case i.holds e new free_hold k)

pub all_held_out : (i : Interlocking) (r n q k : ℕ) → held_by (taken_out i r n) q k ≡ true → held_by i q k ≡ true
unfolding taken_out
all_held_out i r zero q k h = h
all_held_out i r (suc n) q k h = all_held_out i r n q k (held_out (taken_out i r n) r n q k h)

module _ (t : Sheets) where
  wanted_join :
      (i : Interlocking) (r e : ℕ) (p : Position) → open_to (hold_of i e) p ≡ true → Wants (route_sheet t r) e p
      → HeldAsWanted t i → HeldAsWanted t (joined_by i r e p)
  wanted_join i r e p room wants held q k h =
      let new = granted (hold_of i e) r p in
      let j = joined_by i r e p in
      let g = grown_join i r e p room in
      ⊎_elim
      (λ (same : hold_of j k ≡ hold_of i k).
      subst (λ (x : Hold). Wants (route_sheet t q) k x.position) (sym same)
      (held q k (sym (ap (λ (x : Hold). contains x.routes q) same) ∙ h)))
      (λ (here : (k ≡ e) × (hold_of j k ≡ new)).
      ⊎_elim
      (λ (mine : q ≡ r).
      subst (λ (x : Hold). Wants (route_sheet t q) k x.position) (sym here.1)
      (subst (λ (x : ℕ). Wants (route_sheet t q) x p) (sym here.0) (subst (λ (x : ℕ). Wants (route_sheet t x) e p) (sym mine) wants)))
      (λ (ne : q ≢ r).
      let before : held_by i q k ≡ true = sym (g.others q k ne) ∙ h in
      subst (Wants (route_sheet t q) k) (sym (g.kept q k before).1) (held q k before))
      (cases_eq q r))
      (set_case i.holds e new free_hold k)

  wanted_need :
      (i : Interlocking) (r e : ℕ) (w : Option Position) → need_of (route_sheet t r) e ≡ w → fits_hold (hold_of i e) w ≡ true
      → HeldAsWanted t i → HeldAsWanted t (joined_if_any i r e w)
  wanted_need i r e None is room held = held
  wanted_need i r e (Some p) is room held = wanted_join i r e p room (inl is) held

  wanted_request :
      (i : Interlocking) (r e : ℕ) (w : Option Position) → request_of (route_sheet t r) e ≡ w
      → HeldAsWanted t i → HeldAsWanted t (joined_if_any i r e (grantable (hold_of i e) w))
  wanted_request i r e None is held = held
  wanted_request i r e (Some p) is held =
      cond_both (open_to (hold_of i e) p) (Some p) None (λ (x : Option Position). HeldAsWanted t (joined_if_any i r e x))
      (λ room. wanted_join i r e p room (inr is) held)
      (λ _. held)

  wanted_needs :
      (r : ℕ) (xs : List ℕ) (i : Interlocking) → ((k : ℕ) → In k xs → fits (route_sheet t r) i k ≡ true)
      → HeldAsWanted t i → HeldAsWanted t (fold (joined_as (need_choice (route_sheet t r)) r) i xs)
  wanted_needs r [] i room held = held
  wanted_needs r (x ∷ xs) i room held =
      let s = route_sheet t r in
      wanted_needs r xs (joined_as (need_choice s) r i x) (λ k h. fits_still s i r x (need_of s x) refl k (room k (inr h)))
      (wanted_need i r x (need_of s x) refl (room x (inl refl)) held)

  wanted_requests :
      (r : ℕ) (xs : List ℕ) (i : Interlocking) → HeldAsWanted t i
      → HeldAsWanted t (fold (joined_as (request_choice (route_sheet t r)) r) i xs)
  wanted_requests r [] i held = held
  wanted_requests r (x ∷ xs) i held =
      let s = route_sheet t r in
      wanted_requests r xs (joined_as (request_choice s) r i x) (wanted_request i r x (request_of s x) refl held)

  -- an accepted act's own step
  wanted_after : (s : Situation) (a : Act) → answer t s a ≡ None → HeldAsWanted t s.inner → HeldAsWanted t (after t s a).inner
  wanted_after s (act.Set r) h held =
      let sheet = route_sheet t r in
      let start = with_state s.inner r Waiting in
      let room : (k : ℕ) → In k (wanted_by sheet) → fits sheet start k ≡ true
      = λ k h2. list_all_each (fits sheet s.inner) (wanted_by sheet) (set_accepted t s r h).fit k h2 in
      wanted_requests r (wanted_by sheet) (needs_granted sheet r start) (wanted_needs r (wanted_by sheet) start room held)
  wanted_after s (act.Clear r) h held =
      wanted_requests r (wanted_by (route_sheet t r)) (with_state s.inner r (waits_again (state_of s.inner r))) held
  wanted_after s (act.Release r) h held = λ q e out.
      let i = with_state s.inner r Absent in
      subst (Wants (route_sheet t q) e) (sym ((shrunk_all i r 96).positions e)) (held q e (all_held_out i r 96 q e out))
  wanted_after s (act.Tell v) h held = held

  -- other states, and the same holds
  wanted_same : (i j : Interlocking) → j.holds ≡ i.holds → HeldAsWanted t i → HeldAsWanted t j
  wanted_same i j same held =
      subst (λ (hs : List Hold). HeldAsWanted t (record { holds = hs; states = j.states })) (sym same) held

  wanted_unless :
      (s : Situation) (a : Act) (o : Option Refusal) → answer t s a ≡ o → HeldAsWanted t s.inner
      → HeldAsWanted t (unless o t s (after t s a)).inner
  wanted_unless s a None h held =
      let step = after t s a in
      let end = rested t step.meant step.inner in
      wanted_same step.inner (unless None t s step).inner end.holds (wanted_after s a h held)
  wanted_unless s a (Some x) h held = held

  wanted_idle : HeldAsWanted t idle
  wanted_idle q e h =
      let nobody : held_by idle q e ≡ false = ap (λ (x : Hold). contains x.routes q) (hold_idle e) ∙ all_same 64 false q in
      absurd (both_ways (held_by idle q e) nobody h)

  -- at the end of every run
  pub held_as_wanted : (m : Meaning) (acts : List Act) → HeldAsWanted t (run t m acts).inner
  held_as_wanted m acts =
      subst (λ (xs : List Act). HeldAsWanted t (run t m xs).inner) (take_all (length acts) acts (omega arith))
      (always (λ (s : Situation). HeldAsWanted t s.inner) (performed t) (λ s a held. wanted_unless s a (answer t s a) refl held) acts
      (opened m) wanted_idle (length acts))
