-- The readiness of the routes of a plan grows with the routes that are clear, and settling is dropping and raising over it.
use Rattle.std.proofs.Common.{◌≡◌, ℕ, zero, suc, ◌<◌, Bool, true, false, cond, ◌&&◌, eqb, List, length, Some, None, Option, sym, refl, ap, ◌∙◌, subst, inl, inr, ⊎_elim, arith}
use Rattle.std.proofs.lemmas.List.{set-get_or}
use Rattle.std.proofs.lemmas.Bool.{cases_eq, cases_Bool, both_ways, false≢true, true≢false, and_parts, and_from, or_cases, or_left, or_right}
use Rattle.field.specs.Meaning.{Meaning, burning_of}
use Rattle.sheets.specs.declared.sheet.Sheets.{Sheets}
use Rattle.sheets.specs.declared.sheet.Showing.{Showing}
use Rattle.sheets.specs.declared.sheet.Showing.TheVariants as showing
use Rattle.std.specs.List.{list_all}
use Rattle.sheets.specs.Reading.{route_count, route_sheet, wanted_by, used_by}
use Rattle.holds.specs.declared.interlocking.Interlocking.{Interlocking}
use Rattle.holds.specs.declared.state.RouteState.{RouteState}
use Rattle.holds.specs.declared.state.RouteState.TheVariants.{Absent, Waiting, Clear, Dropped}
use Rattle.holds.specs.States.{is_waiting, is_clear, falls, rises}
use Rattle.holds.specs.Interlockings.{state_of, with_state}
use Rattle.holds.specs.Aspects.{permits, shown, clears, aspect_upto, permissive}
use Rattle.readiness.specs.Readiness.{want_met, is_free, lamp_proved, ready}
use Rattle.readiness.specs.declared.settling.Settling.{Settling}
use Rattle.readiness.specs.declared.settling.Settling.TheVariants.{Dropping, Raising}
use Rattle.readiness.proofs.Turns.{all_stay_numbered}
use Rattle.readiness.specs.Settling.{concerns, state_after, settle_one, pass, stays, passes_until, settled}
use Rattle.layout.specs.Every.{every}
use Rattle.runlaws.specs.Settled.{at, with_states, ready_in, Rested}
use Rattle.runlaws.proofs.Passes.{passed, until}
use Rattle.runlaws.proofs.Taken.{Within, Growing, length-taking, only_taken, raising_ready}
use Rattle.runlaws.proofs.Settles.{clear_is, if_left, settled_by, settled_left, settled_taking, settled_stands}

falls_unless : (s : RouteState) (b : Bool) → is_clear s ≡ false → falls s b ≡ s
falls_unless Absent b e = refl
falls_unless Waiting b e = refl
falls_unless Clear b e = absurd (true≢false e)
falls_unless Dropped b e = refl

rises_unless : (s : RouteState) (b : Bool) → is_waiting s ≡ false → rises s b ≡ s
rises_unless Absent b e = refl
rises_unless Waiting b e = absurd (true≢false e)
rises_unless Clear b e = refl
rises_unless Dropped b e = refl

-- a state is written only where it changes
written : (i : Interlocking) (r : ℕ) (b : Bool) (x : RouteState) → (b ≡ false → x ≡ state_of i r) → cond b (with_state i r x) i ≡ with_state i r x
written i r true x same = refl
written i r false x same = sym (ap (with_state i r) (same refl) ∙ ap (with_states i) (set-get_or i.states r Absent))

-- one of two, by a test, with other states
stopped :
    (i : Interlocking) (b : Bool) (x y : Interlocking) (xs ys : List RouteState) → x ≡ with_states i xs → y ≡ with_states i ys
    → ◌≡◌ {A = Interlocking} (elim b [ true ↦ x | false ↦ y ]) (with_states i (cond b xs ys))
stopped i true x y xs ys ex ey = ex
stopped i false x y xs ys ex ey = ey

-- a route that dropping or raising does not concern keeps its state
state_unless : (w : Settling) (s : RouteState) (b : Bool) → concerns w s ≡ false → state_after w s b ≡ s
state_unless Dropping = falls_unless
state_unless Raising = rises_unless

module _ (t : Sheets) (m : Meaning) where
  pass_is : (w : Settling) (i : Interlocking) (n : ℕ) → pass w t m i n ≡ with_states i (passed (state_after w) (ready_in t m i) i.states n)
  unfolding pass passed
  pass_is w i zero = refl
  pass_is w i (suc n) =
      let j = with_states i (passed (state_after w) (ready_in t m i) i.states n) in
      ap (λ k. settle_one w t m k (route_sheet t n) n) (pass_is w i n)
      ∙ written j n (concerns w (state_of j n)) (state_after w (state_of j n) (ready t j m n)) (state_unless w (state_of j n) (ready t j m n))

  passes_are : (w : Settling) (i : Interlocking) (n : ℕ)
      → passes_until w t m i n ≡ with_states i (until (if_left w) (state_after w) (ready_in t m i) (route_count t) i.states n)
  unfolding passes_until until
  passes_are w i zero = refl
  passes_are w i (suc n) =
      let j = with_states i (passed (state_after w) (ready_in t m i) i.states (route_count t)) in
      ap (λ b. elim b [ true ↦ i | false ↦ passes_until w t m (pass w t m i (route_count t)) n ]) (all_stay_numbered w t m i)
      ∙ stopped i (every (λ r. stays w t m i (route_sheet t r) r) (route_count t) 0) i (passes_until w t m (pass w t m i (route_count t)) n) i.states
      (until (if_left w) (state_after w) (ready_in t m i) (route_count t) j.states n)
      refl
      (ap (λ k. passes_until w t m k n) (pass_is w i (route_count t)) ∙ passes_are w j n)

  -- the states once clear routes are dropped, and after settling
  abbrev pub dropped_in : Interlocking → List RouteState
  dropped_in i = settled_by Dropping (ready_in t m i) (route_count t) i.states

  abbrev pub rested_in : Interlocking → List RouteState
  rested_in i = settled_by Raising (ready_in t m i) (route_count t) (dropped_in i)

  pub settled_is : (i : Interlocking) → settled t m i ≡ with_states i (rested_in i)
  settled_is i =
      ap (λ j. passes_until Raising t m j (route_count t)) (passes_are Dropping i (route_count t))
      ∙ passes_are Raising (with_states i (dropped_in i)) (route_count t)

shown_permits : (x : Showing) → permits (shown x) ≡ true
shown_permits showing.Shunting = refl
shown_permits showing.Slow = refl
shown_permits showing.Proceed = refl

-- a permissive aspect is that of a clear route that begins there
pub permits_some : (t : Sheets) (i : Interlocking) (e n : ℕ) → permits (aspect_upto t i e n) ≡ true → (q : ℕ) × ((q < n) × (clears t i e q ≡ true))
unfolding aspect_upto
permits_some t i e zero h = absurd (false≢true h)
permits_some t i e (suc n) h =
    ⊎_elim
    (λ (y : clears t i e n ≡ true). (n, (omega arith, y)))
    (λ (f : clears t i e n ≡ false).
    let rest = permits_some t i e n (subst (λ b. permits (cond b (shown (route_sheet t n).showing) (aspect_upto t i e n)) ≡ true) f h) in
    (rest.0, (let l = rest.1.0 in omega arith, rest.1.1)))
    (cases_Bool (clears t i e n))

some_permits : (t : Sheets) (i : Interlocking) (e n q : ℕ) → q < n → clears t i e q ≡ true → permits (aspect_upto t i e n) ≡ true
unfolding aspect_upto
some_permits t i e zero q l c = absurd (omega arith)
some_permits t i e (suc n) q l c =
    ⊎_elim
    (λ (y : clears t i e n ≡ true).
    subst (λ b. permits (cond b (shown (route_sheet t n).showing) (aspect_upto t i e n)) ≡ true) (sym y) (shown_permits (route_sheet t n).showing))
    (λ (f : clears t i e n ≡ false).
    subst (λ b. permits (cond b (shown (route_sheet t n).showing) (aspect_upto t i e n)) ≡ true) (sym f)
    (⊎_elim
    (λ (same : q ≡ n). absurd (both_ways (clears t i e n) f (subst (λ x. clears t i e x ≡ true) same c)))
    (λ ne. some_permits t i e n q (omega arith) c)
    (cases_eq q n)))
    (cases_Bool (clears t i e n))

lamp_grows :
    (t : Sheets) (m : Meaning) (i : Interlocking) (ss tt : List RouteState) → Within ss tt → (l : Option ℕ)
    → lamp_proved t (with_states i ss) m l ≡ true → lamp_proved t (with_states i tt) m l ≡ true
lamp_grows t m i ss tt more None h = refl
lamp_grows t m i ss tt more (Some e) h =
    ⊎_elim
    (λ burns. or_left (burning_of m e) (permissive t (with_states i tt) e) burns)
    (λ (shows : permissive t (with_states i ss) e ≡ true).
    let q = permits_some t (with_states i ss) e (route_count t) shows in
    let parts = and_parts (is_clear (at ss q.0)) (eqb (route_sheet t q.0).first e) q.1.1 in
    or_right (burning_of m e) (permissive t (with_states i tt) e)
    (some_permits t (with_states i tt) e (route_count t) q.0 q.1.0
    (and_from (is_clear (at tt q.0)) (eqb (route_sheet t q.0).first e) (ap is_clear (more q.0 (clear_is (at ss q.0) parts.0))) parts.1)))
    (or_cases (burning_of m e) (permissive t (with_states i ss) e) h)

pub ready_grows : (t : Sheets) (m : Meaning) (i : Interlocking) → Growing (ready_in t m i)
ready_grows t m i ss tt more r h =
    let s = route_sheet t r in
    let wants = list_all (want_met t s i m r) (wanted_by s) in
    let frees = list_all (is_free m) (used_by s) in
    let a = and_parts wants (frees && lamp_proved t (with_states i ss) m s.end_lamp) h in
    let b = and_parts frees (lamp_proved t (with_states i ss) m s.end_lamp) a.1 in
    and_from wants (frees && lamp_proved t (with_states i tt) m s.end_lamp) a.0
    (and_from frees (lamp_proved t (with_states i tt) m s.end_lamp) b.0 (lamp_grows t m i ss tt more s.end_lamp b.1))

pub rested_length : (t : Sheets) (m : Meaning) (i : Interlocking) → length (rested_in t m i) ≡ length i.states
rested_length t m i =
    let R = ready_in t m i in
    let n = route_count t in
    let mid = dropped_in t m i in
    length-taking R n mid (settled_taking Raising R n mid) ∙ length-taking R n i.states (settled_taking Dropping R n i.states)

pub rested : (t : Sheets) (m : Meaning) (i : Interlocking) → Rested t m i (settled t m i)
rested t m i =
    let R = ready_in t m i in
    let n = route_count t in
    let mid = dropped_in t m i in
    let down_only = only_taken R n i.states (settled_taking Dropping R n i.states) in
    subst (Rested t m i) (sym (settled_is t m i))
    (record {
      clear = raising_ready R n (ready_grows t m i) mid (settled_taking Raising R n mid) (settled_left Dropping R n i.states);
      waiting = settled_left Raising R n mid;
      changes = λ r.
          ⊎_elim
          (λ (up : at (rested_in t m i) r ≡ at (dropped_in t m i) r).
          ⊎_elim
          (λ (down : at (dropped_in t m i) r ≡ state_of i r). inl (up ∙ down))
          (λ (down : (state_of i r ≡ Clear) × (at (dropped_in t m i) r ≡ Dropped)). inr (inl (down.0, up ∙ down.1)))
          (down_only r))
          (λ (up : (at (dropped_in t m i) r ≡ Waiting) × (at (rested_in t m i) r ≡ Clear)).
          ⊎_elim
          (λ (down : at (dropped_in t m i) r ≡ state_of i r). inr (inr (sym down ∙ up.0, up.1)))
          (λ (down : (state_of i r ≡ Clear) × (at (dropped_in t m i) r ≡ Dropped)). absurd (false≢true (ap is_waiting (sym down.1 ∙ up.0))))
          (down_only r))
          (only_taken R n mid (settled_taking Raising R n mid) r);
      stand = λ r. settled_stands Raising R n mid r ∙ settled_stands Dropping R n i.states r;
      holds = refl;
    })
