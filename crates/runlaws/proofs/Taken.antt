-- What routes come to that are taken from one state into another, one by one.
use Rattle.std.proofs.Common.{◌≡◌, ℕ, Bool, true, ◌⊎◌, List, length, set, sym, refl, ap, ◌∙◌, subst, inl, inr, ⊎_elim}
use Rattle.std.proofs.lemmas.List.{length-set}
use Rattle.holds.specs.declared.state.RouteState.{RouteState}
use Rattle.holds.specs.declared.state.RouteState.TheVariants.{Absent, Waiting, Clear, Dropped}
use Rattle.runlaws.specs.Settled.{Readiness, at, Taking, none_taken, one_taken, Dropping, Raising, AllReady}
use Rattle.runlaws.proofs.Lists.{set_case}

-- every route clear in ss is clear in tt
abbrev pub Within : List RouteState → List RouteState → Type 0
Within ss tt = (k : ℕ) → at ss k ≡ Clear → at tt k ≡ Clear

-- readiness grows with the routes that are clear
abbrev pub Growing : Readiness → Type 0
Growing R = (ss tt : List RouteState) → Within ss tt → (k : ℕ) → R ss k ≡ true → R tt k ≡ true

module _ {from to : RouteState} {ready : Bool} (R : Readiness) (count : ℕ) (ss : List RouteState) where
  pub length-taking : {tt : List RouteState} → Taking from to ready R count ss tt → length tt ≡ length ss
  length-taking none_taken = refl
  length-taking (one_taken {tt} d k below c n) = length-set tt k to ∙ length-taking d

  -- a route has the state that it had, or was in the one state and is in the other
  pub only_taken : {tt : List RouteState} → Taking from to ready R count ss tt → (j : ℕ) → (at tt j ≡ at ss j) ⊎ ((at ss j ≡ from) × (at tt j ≡ to))
  only_taken none_taken j = inl refl
  only_taken (one_taken {tt} d k below c n) j =
      ⊎_elim
      (λ (e : at (set tt k to) j ≡ at tt j).
      ⊎_elim (λ (o : at tt j ≡ at ss j). inl (e ∙ o)) (λ (o : (at ss j ≡ from) × (at tt j ≡ to)). inr (o.0, e ∙ o.1)) (only_taken d j))
      (λ (h : (j ≡ k) × (at (set tt k to) j ≡ to)).
      let here : at tt j ≡ from = ap (at tt) h.0 ∙ c in
      ⊎_elim (λ (o : at tt j ≡ at ss j). inr (sym o ∙ here, h.1)) (λ (o : (at ss j ≡ from) × (at tt j ≡ to)). inr (o.0, h.1)) (only_taken d j))
      (set_case tt k to Absent j)

module _ (R : Readiness) (count : ℕ) where
  pub dropping_within : (ss : List RouteState) {tt : List RouteState} → Dropping R count ss tt → Within tt ss
  dropping_within ss {tt} d j c =
      ⊎_elim (λ (o : at tt j ≡ at ss j). sym o ∙ c) (λ (o : (at ss j ≡ Clear) × (at tt j ≡ Dropped)). o.0) (only_taken R count ss d j)

  pub raising_within : (ss : List RouteState) {tt : List RouteState} → Raising R count ss tt → Within ss tt
  raising_within ss {tt} d j c =
      ⊎_elim (λ (o : at tt j ≡ at ss j). o ∙ c) (λ (o : (at ss j ≡ Waiting) × (at tt j ≡ Clear)). o.1) (only_taken R count ss d j)

  -- raising keeps clear routes ready
  pub raising_ready : Growing R → (ss : List RouteState) {tt : List RouteState} → Raising R count ss tt → AllReady R count ss → AllReady R count tt
  raising_ready growing ss none_taken all = all
  raising_ready growing ss (one_taken {tt} d k below c ready) all = λ j inside clear.
      let more : Within tt (set tt k Clear) = raising_within tt (one_taken none_taken k below c ready) in
      ⊎_elim
      (λ (e : at (set tt k Clear) j ≡ at tt j). growing tt (set tt k Clear) more j (raising_ready growing ss d all j inside (sym e ∙ clear)))
      (λ (h : (j ≡ k) × (at (set tt k Clear) j ≡ Clear)). growing tt (set tt k Clear) more j (subst (λ x. R tt x ≡ true) (sym h.0) ready))
      (set_case tt k Clear Absent j)
