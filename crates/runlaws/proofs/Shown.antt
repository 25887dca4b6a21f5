-- What a signal shows: what the one clear route that begins there shows, and stop where none begins.
use Rattle.std.proofs.Common.{◌≡◌, ℕ, zero, suc, ◌<◌, true, false, ◌⊎◌, List, length, sym, refl, ap, ◌∙◌, subst, inl, inr, ⊎_elim, arith}
use Rattle.std.proofs.lemmas.Bool.{cases_eq, cases_Bool, both_ways, cond-true, cond-false}
use Rattle.std.proofs.lemmas.List.{take_all}
use Rattle.field.specs.Meaning.{Meaning}
use Rattle.sheets.specs.declared.sheet.Sheets.{Sheets}
use Rattle.sheets.specs.Reading.{route_sheet}
use Rattle.holds.specs.declared.aspect.Aspect.TheVariants as aspect
use Rattle.holds.specs.declared.interlocking.Interlocking.{Interlocking}
use Rattle.holds.specs.Aspects.{shown, clears, aspect_upto}
use Rattle.acts.specs.declared.act.Act.{Act}
use Rattle.runlaws.specs.Lawful.{Lawful}
use Rattle.runlaws.specs.SheetLaw.{run}
use Rattle.runlaws.proofs.Coherent.{Coherent}
use Rattle.runlaws.proofs.Runs.{run_coherent}

-- the situation at the end of a run is coherent
pub end_coherent : (t : Sheets) → Lawful t → (m : Meaning) (acts : List Act) → Coherent t (run t m acts)
end_coherent t law m acts =
    subst (λ (xs : List Act). Coherent t (run t m xs)) (take_all (length acts) acts (omega arith)) (run_coherent t law m acts (length acts))

module _ (t : Sheets) (i : Interlocking) (e : ℕ) where
  -- some clear route of the first n begins at the signal, or none does
  pub some_clear : (n : ℕ) → ((q : ℕ) × (q < n) × (clears t i e q ≡ true)) ⊎ ((k : ℕ) → k < n → clears t i e k ≡ false)
  some_clear zero = inr (λ k below. absurd (omega arith))
  some_clear (suc n) =
      ⊎_elim
      (λ (y : clears t i e n ≡ true). inl (n, omega arith, y))
      (λ (f : clears t i e n ≡ false).
      ⊎_elim
      (λ (x : (q : ℕ) × (q < n) × (clears t i e q ≡ true)). inl (x.0, (let below = x.1 in omega arith), x.2))
      (λ (none : (k : ℕ) → k < n → clears t i e k ≡ false).
      inr
      (λ k below.
      ⊎_elim
      (λ (at : k ≡ n). subst (λ (x : ℕ). clears t i e x ≡ false) (sym at) f)
      (λ ne. none k (omega arith))
      (cases_eq k n)))
      (some_clear n))
      (cases_Bool (clears t i e n))

  pub stop_shown : (n : ℕ) → ((k : ℕ) → k < n → clears t i e k ≡ false) → aspect_upto t i e n ≡ aspect.Stop
  unfolding aspect_upto
  stop_shown zero none = refl
  stop_shown (suc n) none =
      cond-false (clears t i e n) (shown (route_sheet t n).showing) (aspect_upto t i e n) (none n (omega arith))
      ∙ stop_shown n (λ k below. none k (omega arith))

  pub clear_shown : (n q : ℕ) → q < n → clears t i e q ≡ true → ((k : ℕ) → k < n → clears t i e k ≡ true → k ≡ q)
      → aspect_upto t i e n ≡ shown (route_sheet t q).showing
  unfolding aspect_upto
  clear_shown zero q below c one = absurd (omega arith)
  clear_shown (suc n) q below c one =
      ⊎_elim
      (λ (y : clears t i e n ≡ true).
      cond-true (clears t i e n) (shown (route_sheet t n).showing) (aspect_upto t i e n) y
      ∙ ap (λ (k : ℕ). shown (route_sheet t k).showing) (one n (omega arith) y))
      (λ (f : clears t i e n ≡ false).
      cond-false (clears t i e n) (shown (route_sheet t n).showing) (aspect_upto t i e n) f
      ∙ ⊎_elim
      (λ (at : q ≡ n). absurd (both_ways (clears t i e n) f (subst (λ (x : ℕ). clears t i e x ≡ true) at c)))
      (λ ne. clear_shown n q (omega arith) c (λ k l. one k (omega arith)))
      (cases_eq q n))
      (cases_Bool (clears t i e n))
