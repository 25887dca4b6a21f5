-- The start, a turn and the end of the loops that settle, and that a pass where all routes stay changes nothing.
use Rattle.std.proofs.Common.{◌≡◌, ℕ, zero, suc, ◌+◌, ◌-◌, ◌<◌, ◌≤◌, Bool, true, false, not, ◌&&◌, ◌||◌, sym, refl, ap, ◌∙◌, ⊎_elim, add-one, arith}
use Rattle.std.proofs.lemmas.List.{set-get_or}
use Rattle.std.proofs.lemmas.Bool.{false≢true, cases_Bool, and_parts}
use Rattle.std.proofs.Math.Bool.{and-true, and_assoc}
use Rattle.bounded.specs.Lists.{listed}
use Rattle.field.specs.Meaning.{Meaning}
use Rattle.sheets.specs.declared.sheet.RouteSheet.{RouteSheet}
use Rattle.sheets.specs.declared.sheet.Sheets.{Sheets}
use Rattle.sheets.specs.Reading.{route_count, route_sheet, past_the_end}
use Rattle.holds.specs.declared.interlocking.Interlocking.{Interlocking}
use Rattle.holds.specs.declared.state.RouteState.{RouteState}
use Rattle.holds.specs.declared.state.RouteState.TheVariants.{Absent, Waiting, Clear, Dropped}
use Rattle.holds.specs.Interlockings.{state_of, with_state}
use Rattle.readiness.specs.declared.settling.Settling.{Settling}
use Rattle.readiness.specs.declared.settling.Settling.TheVariants.{Dropping, Raising}
use Rattle.readiness.specs.Readiness.{sheet_ready}
use Rattle.readiness.specs.Settling.{concerns, leaves, state_after, settle_one, pass, stays, all_stay, passes_until}
use Rattle.layout.specs.Every.{every}
use Rattle.layout.proofs.EveryList.{all_places}

-- a route that is concerned and left keeps its state
state_kept : (w : Settling) (s : RouteState) (b : Bool) → concerns w s ≡ true → leaves w b ≡ true → state_after w s b ≡ s
state_kept Dropping Absent b c l = refl
state_kept Dropping Waiting b c l = refl
state_kept Dropping Clear true c l = refl
state_kept Dropping Clear false c l = absurd (false≢true l)
state_kept Dropping Dropped b c l = refl
state_kept Raising Absent b c l = refl
state_kept Raising Waiting true c l = absurd (false≢true l)
state_kept Raising Waiting false c l = refl
state_kept Raising Clear b c l = refl
state_kept Raising Dropped b c l = refl

-- the numbers up to one more pass if those before do and it does
every_more : (test : ℕ → Bool) (n i k : ℕ) → i + n ≡ k → every test (suc n) i ≡ (every test n i && test k)
every_more test zero i k e = and-true (test i) ∙ ap test (omega (arith, e))
every_more test (suc n) i k e =
    ap (λ b. test i && b) (every_more test n (i + 1) k (omega (arith, e))) ∙ sym (and_assoc (test i) (every test n (i + 1)) (test k))

module _ (w : Settling) (t : Sheets) (m : Meaning) where
  -- a route that is concerned and left changes nothing
  pub one_left : (i : Interlocking) (s : RouteSheet) (r : ℕ)
      → concerns w (state_of i r) ≡ true → leaves w (sheet_ready t s i m r) ≡ true → settle_one w t m i s r ≡ i
  one_left i s r c l =
      let same : state_after w (state_of i r) (sheet_ready t s i m r) ≡ state_of i r = state_kept w (state_of i r) (sheet_ready t s i m r) c l in
      rw c (ap (with_state i r) same ∙ ap (λ x. record { holds = i.holds; states = x }) (set-get_or i.states r Absent))

  -- a route that stays changes nothing
  one_stays : (i : Interlocking) (s : RouteSheet) (r : ℕ) → stays w t m i s r ≡ true → settle_one w t m i s r ≡ i
  one_stays i s r h =
      ⊎_elim
      (λ (c : concerns w (state_of i r) ≡ true). one_left i s r c (sym (ap (λ b. not b || leaves w (sheet_ready t s i m r)) c) ∙ h))
      (λ (c : concerns w (state_of i r) ≡ false). rw c)
      (cases_Bool (concerns w (state_of i r)))

  -- the first n routes all stay
  abbrev pub first_stay : Interlocking → ℕ → Bool
  first_stay i n = every (λ r. stays w t m i (route_sheet t r) r) n 0

  stay_more : (i : Interlocking) (n : ℕ) → first_stay i (suc n) ≡ (first_stay i n && stays w t m i (route_sheet t n) n)
  stay_more i n = every_more (λ r. stays w t m i (route_sheet t r) r) n 0 n (omega arith)

  pub pass_none : (i : Interlocking) → pass w t m i 0 ≡ i
  unfolding pass
  pass_none i = refl

  pub pass_more : (i : Interlocking) (n : ℕ) → pass w t m i (n + 1) ≡ settle_one w t m (pass w t m i n) (route_sheet t n) n
  unfolding pass
  pass_more i n = rw add-one

  -- where the first routes stay, a pass over them changes nothing
  pass_stays : (i : Interlocking) (n : ℕ) → first_stay i n ≡ true → pass w t m i n ≡ i
  unfolding pass
  pass_stays i zero h = refl
  pass_stays i (suc n) h =
      let both : (first_stay i n ≡ true) × (stays w t m i (route_sheet t n) n ≡ true) =
      and_parts _ _ (sym (stay_more i n) ∙ h) in
      rw (pass_stays i n both.0) (one_stays i (route_sheet t n) n both.1)

  -- one route more: something was changed before, or it is now
  pub changed_more : (i : Interlocking) (n : ℕ)
      → not (first_stay i (n + 1)) ≡ (not (first_stay i n) || not (stays w t m (pass w t m i n) (route_sheet t n) n))
  changed_more i n =
      ap (λ k. not (first_stay i k)) (add-one n) ∙ ap not (stay_more i n)
      ∙ ⊎_elim
      (λ (h : first_stay i n ≡ true). rw (h, pass_stays i n h))
      (λ (h : first_stay i n ≡ false). rw h)
      (cases_Bool (first_stay i n))

  -- all sheets with their numbers, one after another
  pub all_stay_numbered : (i : Interlocking)
      → all_stay w t m i ≡ every (λ r. stays w t m i (route_sheet t r) r) (route_count t) 0
  all_stay_numbered i =
      all_places (λ (p : ℕ × RouteSheet). stays w t m i p.1 p.0) (λ r. stays w t m i (route_sheet t r) r) (listed t.routes) past_the_end (λ j l. refl)

  until_zero : (i : Interlocking) → passes_until w t m i 0 ≡ i
  unfolding passes_until
  until_zero i = refl

  until_suc : (i : Interlocking) (n : ℕ)
      → passes_until w t m i (suc n) ≡ elim (all_stay w t m i) [ true ↦ i | false ↦ passes_until w t m (pass w t m i (route_count t)) n ]
  unfolding passes_until
  until_suc i n = refl

  -- all is done
  until_rest : (i : Interlocking) (n : ℕ) → all_stay w t m i ≡ true → passes_until w t m i n ≡ i
  until_rest i zero h = until_zero i
  until_rest i (suc n) h = until_suc i n ∙ rw h

  -- a pass that changed nothing was one too many
  pub until_stop : (i : Interlocking) (n : ℕ) → all_stay w t m i ≡ true → passes_until w t m i n ≡ pass w t m i (route_count t)
  until_stop i n h = until_rest i n h ∙ sym (pass_stays i (route_count t) (sym (all_stay_numbered i) ∙ h))

  -- one pass more
  pub until_more : (i : Interlocking) (most n : ℕ) → n < most → all_stay w t m i ≡ false
      → passes_until w t m i (most - n) ≡ passes_until w t m (pass w t m i (route_count t)) (most - (n + 1))
  until_more i most n l h =
      let at : most - n ≡ suc (most - (n + 1)) = omega arith in
      ap (passes_until w t m i) at ∙ (until_suc i (most - (n + 1)) ∙ rw h)

  -- all passes are used up
  pub until_end : (i : Interlocking) (most n : ℕ) → most ≤ n → passes_until w t m i (most - n) ≡ i
  until_end i most n l = let at : most - n ≡ 0 = omega arith in ap (passes_until w t m i) at ∙ until_zero i
