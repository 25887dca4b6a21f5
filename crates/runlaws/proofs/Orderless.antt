-- Whichever routes are taken first, settling comes to the same.
use Rattle.std.proofs.Common.{◌≡◌, ℕ, ◌<◌, true, List, set, sym, ap, ◌∙◌, subst, ⊎_elim}
use Rattle.std.proofs.lemmas.List.{ext_get_or}
use Rattle.std.proofs.lemmas.Bool.{both_ways, false≢true}
use Rattle.sheets.specs.Reading.{route_count}
use Rattle.holds.specs.declared.interlocking.Interlocking.{Interlocking}
use Rattle.holds.specs.declared.state.RouteState.{RouteState}
use Rattle.holds.specs.declared.state.RouteState.TheVariants.{Absent, Waiting, Clear, Dropped}
use Rattle.holds.specs.States.{is_clear}
use Rattle.readiness.specs.declared.settling.Settling.TheVariants as way
use Rattle.readiness.specs.Settling.{settled}
use Rattle.runlaws.specs.Settled.{
  Readiness,
  at,
  none_taken,
  one_taken,
  Dropping,
  Raising,
  AllReady,
  NoneReady,
  Settles,
  ready_in,
  SettlingIsExact,
}
use Rattle.runlaws.proofs.Lists.{set_case}
use Rattle.runlaws.proofs.Taken.{Within, Growing, length-taking, only_taken, dropping_within, raising_within}
use Rattle.runlaws.proofs.Settles.{settled_by, settled_left, settled_taking}
use Rattle.runlaws.proofs.Readying.{settled_is, ready_grows, rested}

dropped_not_clear : (s : RouteState) → s ≡ Dropped → s ≡ Clear → ⊥
dropped_not_clear s d c = false≢true (ap is_clear (sym d ∙ c))

waiting_not_clear : (s : RouteState) → s ≡ Waiting → s ≡ Clear → ⊥
waiting_not_clear s w c = false≢true (ap is_clear (sym w ∙ c))

module _ (R : Readiness) (count : ℕ) where
  module _ (growing : Growing R) where
    -- no order of dropping loses a route of a set that is ready together
    most : (ss uu : List RouteState) {tt : List RouteState} → Dropping R count ss tt → AllReady R count uu → Within uu ss → Within uu tt
    most ss uu none_taken all w = w
    most ss uu (one_taken {tt} d k below c n) all w = λ j cl.
        let before : Within uu tt = most ss uu d all w in
        ⊎_elim
        (λ (e : at (set tt k Dropped) j ≡ at tt j). e ∙ before j cl)
        (λ (h : (j ≡ k) × (at (set tt k Dropped) j ≡ Dropped)).
        absurd (both_ways (R tt k) n (growing uu tt before k (all k below (ap (at uu) (sym h.0) ∙ cl)))))
        (set_case tt k Dropped Absent j)

    same_dropping : (ss aa bb : List RouteState) → Dropping R count ss aa → AllReady R count aa → Dropping R count ss bb → AllReady R count bb → aa ≡ bb
    same_dropping ss aa bb da ra db rb =
        let to : Within aa bb = most ss aa db ra (dropping_within R count ss da) in
        let from : Within bb aa = most ss bb da rb (dropping_within R count ss db) in
        ext_get_or Absent aa bb (length-taking R count ss da ∙ sym (length-taking R count ss db))
        (λ k _.
        ⊎_elim
        (λ (oa : at aa k ≡ at ss k).
        ⊎_elim
        (λ (ob : at bb k ≡ at ss k). oa ∙ sym ob)
        (λ (ob : (at ss k ≡ Clear) × (at bb k ≡ Dropped)). absurd (dropped_not_clear (at bb k) ob.1 (to k (oa ∙ ob.0))))
        (only_taken R count ss db k))
        (λ (oa : (at ss k ≡ Clear) × (at aa k ≡ Dropped)).
        ⊎_elim
        (λ (ob : at bb k ≡ at ss k). absurd (dropped_not_clear (at aa k) oa.1 (from k (ob ∙ oa.0))))
        (λ (ob : (at ss k ≡ Clear) × (at bb k ≡ Dropped)). oa.1 ∙ sym ob.1)
        (only_taken R count ss db k))
        (only_taken R count ss da k))

    -- no order of raising clears a route that an end of raising has not
    least :
        (ss uu : List RouteState) {tt : List RouteState} → Raising R count ss tt → Within ss uu
        → ((k : ℕ) → k < count → at ss k ≡ Waiting → R uu k ≡ true → at uu k ≡ Clear) → Within tt uu
    least ss uu none_taken w end = w
    least ss uu (one_taken {tt} d k below c n) w end = λ j cl.
        let before : Within tt uu = least ss uu d w end in
        ⊎_elim
        (λ (e : at (set tt k Clear) j ≡ at tt j). before j (sym e ∙ cl))
        (λ (h : (j ≡ k) × (at (set tt k Clear) j ≡ Clear)).
        let first : at ss k ≡ Waiting =
        ⊎_elim (λ (o : at tt k ≡ at ss k). sym o ∙ c) (λ (o : (at ss k ≡ Waiting) × (at tt k ≡ Clear)). o.0) (only_taken R count ss d k) in
        ap (at uu) h.0 ∙ end k below first (growing tt uu before k n))
        (set_case tt k Clear Absent j)

    ended : (ss tt : List RouteState) → Raising R count ss tt → NoneReady R count tt → (k : ℕ) → k < count → at ss k ≡ Waiting → R tt k ≡ true → at tt k ≡ Clear
    ended ss tt d none k below w t =
        ⊎_elim
        (λ (o : at tt k ≡ at ss k). absurd (both_ways (R tt k) (none k below (o ∙ w)) t))
        (λ (o : (at ss k ≡ Waiting) × (at tt k ≡ Clear)). o.1)
        (only_taken R count ss d k)

    same_raising : (ss aa bb : List RouteState) → Raising R count ss aa → NoneReady R count aa → Raising R count ss bb → NoneReady R count bb → aa ≡ bb
    same_raising ss aa bb da na db nb =
        let to : Within aa bb = least ss bb da (raising_within R count ss db) (ended ss bb db nb) in
        let from : Within bb aa = least ss aa db (raising_within R count ss da) (ended ss aa da na) in
        ext_get_or Absent aa bb (length-taking R count ss da ∙ sym (length-taking R count ss db))
        (λ k _.
        ⊎_elim
        (λ (oa : at aa k ≡ at ss k).
        ⊎_elim
        (λ (ob : at bb k ≡ at ss k). oa ∙ sym ob)
        (λ (ob : (at ss k ≡ Waiting) × (at bb k ≡ Clear)). absurd (waiting_not_clear (at aa k) (oa ∙ ob.0) (from k ob.1)))
        (only_taken R count ss db k))
        (λ (oa : (at ss k ≡ Waiting) × (at aa k ≡ Clear)).
        ⊎_elim
        (λ (ob : at bb k ≡ at ss k). absurd (waiting_not_clear (at bb k) (ob ∙ oa.0) (to k oa.1)))
        (λ (ob : (at ss k ≡ Waiting) × (at bb k ≡ Clear)). oa.1 ∙ sym ob.1)
        (only_taken R count ss db k))
        (only_taken R count ss da k))

    settles_one : (ss aa bb : List RouteState) → Settles R count ss aa → Settles R count ss bb → aa ≡ bb
    settles_one ss aa bb a b =
        let mid : b.between ≡ a.between = same_dropping ss b.between a.between b.dropping b.all a.dropping a.all in
        same_raising a.between aa bb a.raising a.left (subst (λ u. Raising R count u bb) mid b.raising) b.left

  settles_so : (ss : List RouteState) → Settles R count ss (settled_by way.Raising R count (settled_by way.Dropping R count ss))
  settles_so ss =
      let mid = settled_by way.Dropping R count ss in
      record {
        between = mid;
        dropping = settled_taking way.Dropping R count ss;
        all = settled_left way.Dropping R count ss;
        raising = settled_taking way.Raising R count mid;
        left = settled_left way.Raising R count mid;
      }

pub settling_exact : SettlingIsExact
settling_exact t m i =
    let R = ready_in t m i in
    let n = route_count t in
    let at_end = ap (λ (j : Interlocking). j.states) (settled_is t m i) in
    let so : Settles R n i.states (settled t m i).states = subst (Settles R n i.states) (sym at_end) (settles_so R n i.states) in (
      rested t m i,
      so,
      λ after other. settles_one R n (ready_grows t m i) i.states after (settled t m i).states other so,
    )
