-- Passes of either way of settling take routes one by one, until nothing is left to do.
use Rattle.std.proofs.Common.{◌≡◌, ℕ, ◌<◌, ◌≤◌, Bool, true, false, cond, not, ◌||◌, ◌⊎◌, List, set, sym, refl, ap, ◌∙◌, subst, inl, inr, ⊎_elim, arith}
use Rattle.std.proofs.lemmas.List.{set-get_or}
use Rattle.std.proofs.lemmas.Bool.{false≢true, not-false, or_parts}
use Rattle.holds.specs.declared.state.RouteState.{RouteState}
use Rattle.holds.specs.declared.state.RouteState.TheVariants.{Absent, Waiting, Clear, Dropped}
use Rattle.holds.specs.States.{stands, is_waiting, is_clear}
use Rattle.readiness.specs.declared.settling.Settling.{Settling}
use Rattle.readiness.specs.declared.settling.Settling.TheVariants.{Dropping, Raising}
use Rattle.readiness.specs.Settling.{concerns, leaves, state_after}
use Rattle.runlaws.specs.Settled.{Readiness, at, Taking, none_taken, one_taken}
use Rattle.runlaws.proofs.Passes.{Test, until, at_rest, until_keeps}
use Rattle.runlaws.proofs.Taken.{only_taken}

-- the state that a way of settling concerns, the one that it leads to, and the readiness at which it does
abbrev pub from : Settling → RouteState
from Dropping = Clear
from Raising = Waiting

abbrev pub to : Settling → RouteState
to Dropping = Dropped
to Raising = Clear

abbrev pub due : Settling → Bool
due Dropping = false
due Raising = true

pub clear_is : (s : RouteState) → is_clear s ≡ true → s ≡ Clear
clear_is Absent c = absurd (false≢true c)
clear_is Waiting c = absurd (false≢true c)
clear_is Clear c = refl
clear_is Dropped c = absurd (false≢true c)

waiting_is : (s : RouteState) → is_waiting s ≡ true → s ≡ Waiting
waiting_is Absent c = absurd (false≢true c)
waiting_is Waiting c = refl
waiting_is Clear c = absurd (false≢true c)
waiting_is Dropped c = absurd (false≢true c)

-- a route stays, or is concerned and taken
how : (w : Settling) (s : RouteState) (b : Bool) → (state_after w s b ≡ s) ⊎ ((s ≡ from w) × (b ≡ due w) × (state_after w s b ≡ to w))
how Dropping Absent b = inl refl
how Dropping Waiting b = inl refl
how Dropping Clear true = inl refl
how Dropping Clear false = inr (refl, refl, refl)
how Dropping Dropped b = inl refl
how Raising Absent b = inl refl
how Raising Waiting true = inr (refl, refl, refl)
how Raising Waiting false = inl refl
how Raising Clear b = inl refl
how Raising Dropped b = inl refl

arrives : (w : Settling) → state_after w (from w) (due w) ≡ to w
arrives Dropping = refl
arrives Raising = refl

stands_on : (w : Settling) → stands (to w) ≡ stands (from w)
stands_on Dropping = refl
stands_on Raising = refl

-- a route that is concerned stays if it is to be left
abbrev pub if_left : Settling → Test
if_left w s b = not (concerns w s) || leaves w b

concerned : (w : Settling) (s : RouteState) → concerns w s ≡ true → s ≡ from w
concerned Dropping s c = clear_is s c
concerned Raising s c = waiting_is s c

not_leaves : (w : Settling) (b : Bool) → leaves w b ≡ false → b ≡ due w
not_leaves Dropping b e = e
not_leaves Raising b e = not-false b e

not_left : (w : Settling) (s : RouteState) (b : Bool) → if_left w s b ≡ false → (s ≡ from w) × (b ≡ due w)
not_left w s b e =
    let parts = or_parts (not (concerns w s)) (leaves w b) e in
    (concerned w s (not-false (concerns w s) parts.0), not_leaves w b parts.1)

left_over : (w : Settling) (b : Bool) → if_left w (from w) b ≡ true → b ≡ not (due w)
left_over Dropping b e = e
left_over Raising true e = absurd (false≢true e)
left_over Raising false e = refl

-- a route that is concerned has some weight
abbrev weight : Settling → RouteState → ℕ
weight w s = cond (concerns w s) 1 0

weight_small : (w : Settling) (s : RouteState) → weight w s ≤ 1
weight_small w s = small (concerns w s)
  where
    small : (b : Bool) → cond b 1 0 ≤ 1
    small true = omega arith
    small false = omega arith

weightless : (w : Settling) → weight w Absent ≡ 0
weightless Dropping = refl
weightless Raising = refl

lighter : (w : Settling) → weight w (to w) < weight w (from w)
lighter Dropping = omega arith
lighter Raising = omega arith

way : (w : Settling) (s : RouteState) (b : Bool) → (state_after w s b ≡ s) ⊎ (weight w (state_after w s b) < weight w s)
way w s b =
    ⊎_elim
    (λ (e : state_after w s b ≡ s). inl e)
    (λ (h : (s ≡ from w) × (b ≡ due w) × (state_after w s b ≡ to w)). inr (rw (h.2, h.0) (lighter w)))
    (how w s b)

moves : (w : Settling) (s : RouteState) (b : Bool) → if_left w s b ≡ false → weight w (state_after w s b) < weight w s
moves w s b e = let (is, so) = not_left w s b e in rw (is, so, arrives w) (lighter w)

module _ (w : Settling) (R : Readiness) (count : ℕ) (ss : List RouteState) where
  -- as many passes as there are routes
  abbrev pub settled_by : List RouteState
  settled_by = until (if_left w) (state_after w) R count ss count

  -- nothing is left to do: every clear route is ready, or no waiting one
  pub settled_left : (k : ℕ) → k < count → at settled_by k ≡ from w → R settled_by k ≡ not (due w)
  settled_left k below c =
      let rest = at_rest (if_left w) (state_after w) (weight w) (weight_small w) (weightless w) (way w) (moves w) R count ss k below in
      left_over w (R settled_by k) (subst (λ s. if_left w s (R settled_by k) ≡ true) c rest)

  pub settled_taking : Taking (from w) (to w) (due w) R count ss settled_by
  settled_taking =
      until_keeps (state_after w) R (Taking (from w) (to w) (due w) R count ss) count
      (λ u k below d.
      ⊎_elim
      (λ (e : state_after w (at u k) (R u k) ≡ at u k). subst (Taking (from w) (to w) (due w) R count ss) (sym (ap (set u k) e ∙ set-get_or u k Absent)) d)
      (λ (h : (at u k ≡ from w) × (R u k ≡ due w) × (state_after w (at u k) (R u k) ≡ to w)).
      subst (Taking (from w) (to w) (due w) R count ss) (sym (ap (set u k) h.2)) (one_taken d k below h.0 h.1))
      (how w (at u k) (R u k)))
      (if_left w) ss count none_taken

  -- who stands stays
  pub settled_stands : (k : ℕ) → stands (at settled_by k) ≡ stands (at ss k)
  settled_stands k =
      ⊎_elim
      (λ (o : at settled_by k ≡ at ss k). ap stands o)
      (λ (o : (at ss k ≡ from w) × (at settled_by k ≡ to w)). ap stands o.1 ∙ (stands_on w ∙ sym (ap stands o.0)))
      (only_taken R count ss settled_taking k)
