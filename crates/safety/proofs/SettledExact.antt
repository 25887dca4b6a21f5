-- Every accepted act on a checked plan leaves every clear route ready and no waiting one, and drops clear routes only.
use Rattle.std.proofs.Common.{◌≡◌, ℕ, ◌<◌, ◌≢◌, ◌⊎◌, List, get_or, None, sym, refl, ap, ◌∙◌, subst, inl, inr, ⊎_elim}
use Rattle.std.proofs.lemmas.Bool.{both_ways, true≢false, false≢true}
use Rattle.layout.specs.declared.drawing.Drawing.{Drawing}
use Rattle.sheets.specs.declared.sheet.Sheets.{Sheets}
use Rattle.sheets.specs.Reading.{route_count, route_sheet, wanted_by}
use Rattle.sheets.specs.Sheets.{sheets_of}
use Rattle.plan.specs.Sound.{SoundPlan}
use Rattle.sheetlaws.specs.Routes.{HasRoute}
use Rattle.holds.specs.declared.interlocking.Interlocking.{Interlocking}
use Rattle.holds.specs.declared.state.RouteState.{RouteState}
use Rattle.holds.specs.declared.state.RouteState.TheVariants.{Absent, Waiting, Clear, Dropped}
use Rattle.holds.specs.States.{stands, is_waiting, is_clear, waits_again}
use Rattle.holds.specs.Interlockings.{state_of, with_state}
use Rattle.readiness.specs.Readiness.{ready}
use Rattle.acts.specs.declared.act.Act.{Act}
use Rattle.acts.specs.declared.act.Act.TheVariants as act
use Rattle.acts.specs.Situations.{Situation}
use Rattle.acts.specs.Answers.{answer}
use Rattle.acts.specs.Acts.{after, settle, unless}
use Rattle.runlaws.proofs.Lists.{set_case}
use Rattle.runlaws.proofs.Granted.{grown_requests, shrunk_all}
use Rattle.runlaws.proofs.Coherent.{route_counts, set_accepted, grown_set}
use Rattle.runlaws.proofs.Orderless.{settling_exact}
use Rattle.safety.specs.Ready.{LeftSettled, SettledAfter}
use Rattle.safety.proofs.PlanLawful.{route_has}
use Rattle.safety.proofs.ReadyExact.{ready_exactly}

-- a state is the one before, or neither clear nor dropped
abbrev Calmed : RouteState → RouteState → Type 0
Calmed x y = (y ≡ x) ⊎ (y ≡ Waiting) ⊎ (y ≡ Absent)

waits_or_stays : (x : RouteState) → Calmed x (waits_again x)
waits_or_stays Absent = inl refl
waits_or_stays Waiting = inl refl
waits_or_stays Clear = inl refl
waits_or_stays Dropped = inr (inl refl)

-- writing one state that is calmed leaves every state calmed
written_calmed :
    (i : Interlocking) (r : ℕ) (y : RouteState) → Calmed (state_of i r) y → (q : ℕ)
    → Calmed (state_of i q) (state_of (with_state i r y) q)
written_calmed i r y calmed q =
    ⊎_elim
    (λ (same : state_of (with_state i r y) q ≡ state_of i q). inl same)
    (λ (here : (q ≡ r) × (state_of (with_state i r y) q ≡ y)).
    subst (Calmed (state_of i q)) (sym here.1) (subst (λ (k : ℕ). Calmed (state_of i k) y) (sym here.0) calmed))
    (set_case i.states r y Absent q)

-- other holds with the same states
restated_calmed :
    (i j k : Interlocking) → k.states ≡ j.states → ((q : ℕ) → Calmed (state_of i q) (state_of j q))
    → (q : ℕ) → Calmed (state_of i q) (state_of k q)
restated_calmed i j k same calmed q =
    subst (λ (ss : List RouteState). Calmed (state_of i q) (get_or ss q Absent)) (sym same) (calmed q)

-- the own step of an accepted act makes no route clear or dropped
step_calmed : (t : Sheets) (s : Situation) (a : Act) → answer t s a ≡ None → (q : ℕ) → Calmed (state_of s.inner q) (state_of (after t s a).inner q)
step_calmed t s (act.Set r) h =
    restated_calmed s.inner (with_state s.inner r Waiting) (after t s (act.Set r)).inner
    (grown_set t s.inner r (set_accepted t s r h)).states
    (written_calmed s.inner r Waiting (inr (inl refl)))
step_calmed t s (act.Clear r) h =
    let again = waits_again (state_of s.inner r) in
    restated_calmed s.inner (with_state s.inner r again) (after t s (act.Clear r)).inner
    (grown_requests (route_sheet t r) r (wanted_by (route_sheet t r)) (with_state s.inner r again)).states
    (written_calmed s.inner r again (waits_or_stays (state_of s.inner r)))
step_calmed t s (act.Release r) h =
    restated_calmed s.inner (with_state s.inner r Absent) (after t s (act.Release r)).inner
    (shrunk_all (with_state s.inner r Absent) r 96).states
    (written_calmed s.inner r Absent (inr (inr refl)))
step_calmed t s (act.Tell v) h = λ q. inl refl

-- a calmed state that is clear or dropped was so
calmed_clear : (x y : RouteState) → Calmed x y → y ≡ Clear → x ≡ Clear
calmed_clear x y (inl same) c = sym same ∙ c
calmed_clear x y (inr (inl w)) c = absurd (false≢true (ap is_clear (sym w ∙ c)))
calmed_clear x y (inr (inr n)) c = absurd (false≢true (ap is_clear (sym n ∙ c)))

calmed_dropped : (x y : RouteState) → Calmed x y → y ≡ Dropped → x ≡ Dropped
calmed_dropped x y (inl same) c = sym same ∙ c
calmed_dropped x y (inr (inl w)) c = absurd (true≢false (ap is_waiting (sym w ∙ c)))
calmed_dropped x y (inr (inr n)) c = absurd (false≢true (ap stands (sym n ∙ c)))

-- settling drops what was clear before the act
settled_dropped :
    (t : Sheets) (s : Situation) (a : Act) → answer t s a ≡ None → (r : ℕ) → state_of (settle t (after t s a)).inner r ≡ Dropped
    → state_of s.inner r ≢ Dropped → state_of s.inner r ≡ Clear
settled_dropped t s a h r end other = go ((settling_exact t (after t s a).meant (after t s a).inner).0.changes r)
  where
    go :
        (state_of (settle t (after t s a)).inner r ≡ state_of (after t s a).inner r)
        ⊎ ((state_of (after t s a).inner r ≡ Clear) × (state_of (settle t (after t s a)).inner r ≡ Dropped))
        ⊎ ((state_of (after t s a).inner r ≡ Waiting) × (state_of (settle t (after t s a)).inner r ≡ Clear))
        → state_of s.inner r ≡ Clear
    go (inl same) = absurd (other (calmed_dropped _ _ (step_calmed t s a h r) (sym same ∙ end)))
    go (inr (inl fell)) = calmed_clear _ _ (step_calmed t s a h r) fell.0
    go (inr (inr rose)) = absurd (true≢false (ap is_clear (sym rose.1 ∙ end)))

pub settled_after : (d : Drawing) → SoundPlan d → SettledAfter d
settled_after d sound s a h =
    let t = sheets_of d in
    let step = after t s a in
    let rest = (settling_exact t step.meant step.inner).0 in
    let counts : (r : ℕ) → HasRoute d r → r < route_count t = λ r route. route_counts t r (route_has d sound r route) in
    subst (LeftSettled d s) (sym (ap (λ o. unless o t s step) h))
    (record {
      clear = λ r route c. (ready_exactly d sound (settle t step) r route).0 (rest.clear r (counts r route) c);
      waiting = λ r route w good.
          both_ways (ready t (settle t step).inner step.meant r) (rest.waiting r (counts r route) w)
          ((ready_exactly d sound (settle t step) r route).1 good);
      dropped = settled_dropped t s a h;
    })
