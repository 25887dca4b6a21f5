-- After every run a signal of a checked plan shows what the clear route that begins at it shows, and stop where none begins.
use Rattle.std.proofs.Common.{◌≡◌, ℕ, ◌<◌, Bool, true, false, cond, eqb, ◌≢◌, Ok, Err, sym, refl, ap, ◌∙◌, subst, ⊎_elim}
use Rattle.std.proofs.lemmas.Bool.{cases_eq, cases_Bool, both_ways, and_parts, and_from, eqb-true, eq-eqb, lt-ltb, cond-true}
use Rattle.layout.specs.declared.drawing.Drawing.{Drawing}
use Rattle.layout.specs.declared.route.RouteClass.{RouteClass}
use Rattle.layout.specs.declared.route.RouteClass.TheVariants as class
use Rattle.layout.specs.Kinds.{is_signal}
use Rattle.layout.proofs.KindTests.{signal_test}
use Rattle.refusals.specs.declared.refusal.Refusal.TheVariants as refusal
use Rattle.sheets.specs.declared.sheet.RouteSheet.{RouteSheet}
use Rattle.sheets.specs.Reading.{route_count, route_sheet, element_of}
use Rattle.sheets.specs.Sheets.{sheets_of}
use Rattle.plan.specs.Flanks.{route_of}
use Rattle.plan.specs.Sound.{SoundPlan}
use Rattle.sheetlaws.specs.Routes.{HasRoute, sheet_at}
use Rattle.sheetlaws.specs.Ends.{first_element}
use Rattle.sheetlaws.proofs.EndsExact.{showing_exact}
use Rattle.holds.specs.declared.aspect.Aspect.{Aspect}
use Rattle.holds.specs.declared.aspect.Aspect.TheVariants as aspect
use Rattle.holds.specs.declared.state.RouteState.TheVariants as state
use Rattle.holds.specs.States.{stands, is_clear}
use Rattle.holds.specs.Interlockings.{state_of}
use Rattle.holds.specs.Aspects.{shown, clears, aspect_of}
use Rattle.acts.specs.Situations.{Situation}
use Rattle.runlaws.proofs.Settles.{clear_is}
use Rattle.runlaws.proofs.Coherent.{Coherent, route_counts}
use Rattle.runlaws.proofs.Runs.{starts_one}
use Rattle.runlaws.proofs.Shown.{end_coherent, some_clear, stop_shown, clear_shown}
use Rattle.safety.specs.Words.{run}
use Rattle.safety.specs.Signals.{ClearsTo, shunting, slow, proceed, Shows, of_clear_route, at_stop, AspectsExactly}
use Rattle.safety.proofs.PlanLawful.{same_sheet, route_known, route_has, first_told, plan_lawful}
use Rattle.safety.proofs.Told.{kind_of_each}

-- an aspect that is answered of a signal is what it shows
answered_signal : (b : Bool) (x v : Aspect) → cond b (Ok x) (Err refusal.NotOfThePlan) ≡ Ok v → (b ≡ true) × (x ≡ v)
answered_signal true x v e = (refl, (cc))
answered_signal false x v e = cc

module _ (d : Drawing) (sound : SoundPlan d) where
  module _ (r : ℕ) (h : HasRoute d r) where
    clears_to : ClearsTo (route_of d r) (shown (route_sheet (sheets_of d) r).showing)
    clears_to = subst (λ (s : RouteSheet). ClearsTo (route_of d r) (shown s.showing)) (sym (same_sheet d sound r h)) (go (route_of d r).class refl (route_of d r).zero_overlap refl)
      where
        go : (c : RouteClass) → (route_of d r).class ≡ c → (z : Bool) → (route_of d r).zero_overlap ≡ z → ClearsTo (route_of d r) (shown (sheet_at d r).showing)
        go class.Shunting is z zero = subst (λ x. ClearsTo (route_of d r) (shown x)) (sym ((showing_exact d sound r h).0 is)) (shunting is)
        go class.Train is true zero = subst (λ x. ClearsTo (route_of d r) (shown x)) (sym ((showing_exact d sound r h).1 is zero)) (slow is zero)
        go class.Train is false zero = subst (λ x. ClearsTo (route_of d r) (shown x)) (sym ((showing_exact d sound r h).2 is zero)) (proceed is zero)

    cleared_to : (v : Aspect) → ClearsTo (route_of d r) v → shown (route_sheet (sheets_of d) r).showing ≡ v
    cleared_to v c = ap (λ (s : RouteSheet). shown s.showing) (same_sheet d sound r h) ∙ go v c
      where
        go : (v : Aspect) → ClearsTo (route_of d r) v → shown (sheet_at d r).showing ≡ v
        go aspect.Stop none = elim none [ ]
        go aspect.Shunting (shunting is) = ap shown ((showing_exact d sound r h).0 is)
        go aspect.Slow (slow is zero) = ap shown ((showing_exact d sound r h).1 is zero)
        go aspect.Proceed (proceed is zero) = ap shown ((showing_exact d sound r h).2 is zero)

  module _ (s : Situation) (l : ℕ) where
    clears_told : (r : ℕ) → HasRoute d r → state_of s.inner r ≡ state.Clear → first_element d r ≡ l → clears (sheets_of d) s.inner l r ≡ true
    clears_told r h c first =
        and_from (is_clear (state_of s.inner r)) (eqb (route_sheet (sheets_of d) r).first l) (ap is_clear c)
        (eq-eqb (route_sheet (sheets_of d) r).first l (first_told d sound r h ∙ first))

    clears_meant : (r : ℕ) → HasRoute d r → clears (sheets_of d) s.inner l r ≡ true → (state_of s.inner r ≡ state.Clear) × (first_element d r ≡ l)
    clears_meant r h c =
        let parts = and_parts (is_clear (state_of s.inner r)) (eqb (route_sheet (sheets_of d) r).first l) c in
        (clear_is (state_of s.inner r) parts.0, sym (first_told d sound r h) ∙ eqb-true (route_sheet (sheets_of d) r).first l parts.1)

    counted : (r : ℕ) → r < route_count (sheets_of d) → HasRoute d r
    counted r below = route_known d sound r (lt-ltb r (route_count (sheets_of d)) below)

    module _ (c : Coherent (sheets_of d) s) where
      -- where a clear route begins, its aspect is shown, since no other clear route begins there
      aspect_is : (r : ℕ) → HasRoute d r → clears (sheets_of d) s.inner l r ≡ true
          → aspect_of (sheets_of d) s.inner l ≡ shown (route_sheet (sheets_of d) r).showing
      aspect_is r h begins =
          let t = sheets_of d in
          let mine = clears_meant r h begins in
          clear_shown t s.inner l (route_count t) r (route_counts t r (route_has d sound r h)) begins
          (λ k below other.
          let its = clears_meant k (counted k below) other in
          ⊎_elim
          (λ (one : k ≡ r). one)
          (λ (ne : k ≢ r).
          absurd
          (starts_one t (plan_lawful d sound) s c k r ne (ap stands its.0) (ap stands mine.0)
          (first_told d sound k (counted k below) ∙ (its.1 ∙ sym (first_told d sound r h ∙ mine.1)))))
          (cases_eq k r))

      shows : Shows d s l (aspect_of (sheets_of d) s.inner l)
      shows =
          let t = sheets_of d in
          let n = route_count t in
          ⊎_elim
          (λ (x : (q : ℕ) × (q < n) × (clears t s.inner l q ≡ true)).
          let h = counted x.0 x.1 in
          let begins = clears_meant x.0 h x.2 in
          of_clear_route x.0 h begins.0 begins.1
          (subst (ClearsTo (route_of d x.0)) (sym (aspect_is x.0 h x.2)) (clears_to x.0 h)))
          (λ (none : (k : ℕ) → k < n → clears t s.inner l k ≡ false).
          subst (Shows d s l) (sym (stop_shown t s.inner l n none))
          (at_stop
          (λ r h clear first.
          both_ways (clears t s.inner l r) (none r (route_counts t r (route_has d sound r h))) (clears_told r h clear first))))
          (some_clear t s.inner l n)

      is_shown : (v : Aspect) → Shows d s l v → aspect_of (sheets_of d) s.inner l ≡ v
      is_shown v (of_clear_route r h clear first to) = aspect_is r h (clears_told r h clear first) ∙ cleared_to r h v to
      is_shown aspect.Stop (at_stop none) =
          stop_shown (sheets_of d) s.inner l (route_count (sheets_of d))
          (λ k below.
          let i = s.inner in
          ⊎_elim
          (λ (t : clears (sheets_of d) i l k ≡ true).
          let begins = clears_meant k (counted k below) t in absurd (none k (counted k below) begins.0 begins.1))
          (λ (f : clears (sheets_of d) i l k ≡ false). f)
          (cases_Bool (clears (sheets_of d) i l k)))

pub aspects_exactly : (d : Drawing) → SoundPlan d → AspectsExactly d
aspects_exactly d sound m acts l v =
    let t = sheets_of d in
    let s = run d m acts in
    let c = end_coherent t (plan_lawful d sound) m acts in
    let signal = is_signal (element_of t l).kind in
    let kind_is = kind_of_each d sound l in (
      (λ e.
          let both : (signal ≡ true) × (aspect_of t s.inner l ≡ v) = answered_signal signal (aspect_of t s.inner l) v e in
          (sym kind_is ∙ signal_test (element_of t l).kind both.0, subst (Shows d s l) both.1 (shows d sound s l c))),
      (λ h.
          cond-true signal (Ok (aspect_of t s.inner l)) (Err refusal.NotOfThePlan) (ap is_signal (kind_is ∙ h.0))
          ∙ ap Ok (is_shown d sound s l c v h.1)),
    )
