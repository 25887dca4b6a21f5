-- Which routes stand after an act, and which dropped ones are still dropped.
use Rattle.std.proofs.Common.{◌≡◌, ℕ, ◌<◌, false, ◌≢◌, ◌⊎◌, length, get_or, Some, None, Option, sym, refl, ap, ◌∙◌, subst, inl, inr, ⊎_elim, arith}
use Rattle.std.proofs.lemmas.List.{get_or-set_same, get_or-set_other, get_or_past}
use Rattle.std.proofs.lemmas.Option.{none-some}
use Rattle.std.proofs.lemmas.Bool.{cases_eq, cases_lt, false≢true, true≢false}
use Rattle.refusals.specs.declared.refusal.Refusal.{Refusal}
use Rattle.sheets.specs.declared.sheet.Sheets.{Sheets}
use Rattle.sheets.specs.Reading.{route_sheet, wanted_by}
use Rattle.holds.specs.declared.interlocking.Interlocking.{Interlocking}
use Rattle.holds.specs.declared.state.RouteState.{RouteState}
use Rattle.holds.specs.declared.state.RouteState.TheVariants.{Absent, Waiting, Clear, Dropped}
use Rattle.holds.specs.States.{stands, is_waiting, is_clear, waits_again}
use Rattle.holds.specs.Interlockings.{state_of, with_state}
use Rattle.acts.specs.declared.act.Act.{Act}
use Rattle.acts.specs.declared.act.Act.TheVariants as act
use Rattle.acts.specs.Situations.{Situation}
use Rattle.acts.specs.Answers.{answer}
use Rattle.acts.specs.Acts.{after, settle, unless}
use Rattle.runlaws.specs.Lawful.{Lawful}
use Rattle.runlaws.specs.SheetLaw.{Standing}
use Rattle.runlaws.proofs.Readying.{rested}
use Rattle.runlaws.proofs.Granted.{grown_requests, shrunk_all}
use Rattle.runlaws.proofs.Coherent.{set_accepted, grown_set, release_route, route_counts, state_which, again_stands}

-- the states after the own step of an act
set_state : (t : Sheets) (s : Situation) (q r : ℕ) → answer t s (act.Set q) ≡ None
    → state_of (after t s (act.Set q)).inner r ≡ state_of (with_state s.inner q Waiting) r
set_state t s q r h = ap (λ ss. get_or ss r Absent) (grown_set t s.inner q (set_accepted t s q h)).states

clear_state : (t : Sheets) (s : Situation) (q r : ℕ)
    → state_of (after t s (act.Clear q)).inner r ≡ state_of (with_state s.inner q (waits_again (state_of s.inner q))) r
clear_state t s q r =
    ap (λ ss. get_or ss r Absent)
    (grown_requests (route_sheet t q) q (wanted_by (route_sheet t q)) (with_state s.inner q (waits_again (state_of s.inner q)))).states

release_state : (t : Sheets) (s : Situation) (q r : ℕ) → state_of (after t s (act.Release q)).inner r ≡ state_of (with_state s.inner q Absent) r
release_state t s q r = ap (λ ss. get_or ss r Absent) (shrunk_all (with_state s.inner q Absent) q 96).states

-- an accepted act sets the route, or leaves it standing as it did and does not release it
abbrev Stays : Act → Situation → ℕ → Type 0
Stays a s r = (a ≡ act.Set r) ⊎ (Standing s r × (a ≢ act.Release r))

stands_stepped :
    (t : Sheets) → Lawful t → (s : Situation) → length s.inner.states ≡ 64 → (a : Act) → answer t s a ≡ None → (r : ℕ)
    → (Standing (after t s a) r → Stays a s r) × (Stays a s r → Standing (after t s a) r)
stands_stepped t law s size (act.Set q) h r =
    let i = s.inner in
    let now = set_state t s q r h in
    ⊎_elim
    (λ (o : (r ≢ q) × (state_of (with_state i q Waiting) r ≡ state_of i r)).
    let same = ap stands (now ∙ o.1) in (
      λ st. inr (sym same ∙ st, λ e. cc),
      λ so.
          ⊎_elim
          (λ (e : act.Set q ≡ act.Set r). absurd (o.0 cc))
          (λ (b : Standing s r × (act.Set q ≢ act.Release r)). same ∙ b.0) so,
    ))
    (λ (o : (r ≡ q) × (state_of (with_state i q Waiting) r ≡ Waiting)).
    (λ st. inl (ap (λ (k : ℕ). act.Set k) (sym o.0)), λ so. ap stands (now ∙ o.1)))
    (state_which i q Waiting (omega (arith, law.few, route_counts t q (set_accepted t s q h).route)) size r)
stands_stepped t law s size (act.Clear q) h r =
    let same = ap stands (clear_state t s q r) ∙ again_stands s.inner q r in (
      λ st. inr (sym same ∙ st, λ e. cc),
      λ so.
          ⊎_elim
          (λ (e : act.Clear q ≡ act.Set r). cc)
          (λ (b : Standing s r × (act.Clear q ≢ act.Release r)). same ∙ b.0) so,
    )
stands_stepped t law s size (act.Release q) h r =
    let i = s.inner in
    let now = release_state t s q r in
    ⊎_elim
    (λ (o : (r ≢ q) × (state_of (with_state i q Absent) r ≡ state_of i r)).
    let same = ap stands (now ∙ o.1) in (
      λ st. inr (sym same ∙ st, λ e. o.0 cc),
      λ so.
          ⊎_elim
          (λ (e : act.Release q ≡ act.Set r). cc)
          (λ (b : Standing s r × (act.Release q ≢ act.Release r)). same ∙ b.0) so,
    ))
    (λ (o : (r ≡ q) × (state_of (with_state i q Absent) r ≡ Absent)). (
      λ st. absurd (false≢true (sym (ap stands (now ∙ o.1)) ∙ st)),
      λ so.
          ⊎_elim
          (λ (e : act.Release q ≡ act.Set r). cc)
          (λ (b : Standing s r × (act.Release q ≢ act.Release r)). absurd (b.1 (ap (λ (k : ℕ). act.Release k) (sym o.0)))) so,
    ))
    (state_which i q Absent (omega (arith, law.few, route_counts t q (release_route t s q h))) size r)
stands_stepped t law s size (act.Tell v) h r = (
  λ st. inr (st, λ e. cc),
  λ so.
      ⊎_elim
      (λ (e : act.Tell v ≡ act.Set r). cc)
      (λ (b : Standing s r × (act.Tell v ≢ act.Release r)). b.0) so,
)

-- a route stands after an act, with this answer, exactly if it is so
abbrev StandsSo : Option Refusal → Act → Situation → ℕ → Type 0
StandsSo o a s r = ((a ≡ act.Set r) × (o ≡ None)) ⊎ (Standing s r × (a ≡ act.Release r → o ≢ None))

pub stands_unless :
    (t : Sheets) → Lawful t → (s : Situation) → length s.inner.states ≡ 64 → (a : Act) (o : Option Refusal) → answer t s a ≡ o → (r : ℕ)
    → (Standing (unless o t s (after t s a)) r → StandsSo o a s r) × (StandsSo o a s r → Standing (unless o t s (after t s a)) r)
stands_unless t law s size a None h r =
    let step = stands_stepped t law s size a h r in
    let end = (rested t (after t s a).meant (after t s a).inner).stand r in (
      λ st.
          ⊎_elim
          (λ (e : a ≡ act.Set r). inl (e, refl))
          (λ (b : Standing s r × (a ≢ act.Release r)). inr (b.0, λ e n. b.1 e))
          (step.0 (sym end ∙ st)),
      λ so.
          end ∙
          step.1
          (⊎_elim
          (λ (b : (a ≡ act.Set r) × (None ≡ None)). inl b.0)
          (λ (b : Standing s r × (a ≡ act.Release r → None ≢ None)). inr (b.0, λ e. b.1 e refl)) so),
    )
stands_unless t law s size a (Some x) h r = (
  λ st. inr (st, λ e n. absurd (none-some x (sym n))),
  λ so.
      ⊎_elim
      (λ (b : (a ≡ act.Set r) × (Some x ≡ None)). absurd (none-some x (sym b.1)))
      (λ (b : Standing s r × (a ≡ act.Release r → Some x ≢ None)). b.0) so,
)

-- the state of a dropped route is stored, and so is another one that is written for it
dropped_within : (i : Interlocking) (r : ℕ) → state_of i r ≡ Dropped → r < length i.states
dropped_within i r d =
    ⊎_elim
    (λ (within : r < length i.states). within)
    (λ past. absurd (false≢true (ap stands (sym (get_or_past i.states r Absent past) ∙ d))))
    (cases_lt r (length i.states))

written_dropped : (i : Interlocking) (q : ℕ) (y : RouteState) → state_of i q ≡ Dropped → state_of (with_state i q y) q ≡ y
written_dropped i q y d = get_or-set_same i.states q y Absent (dropped_within i q d)

-- the own step of an accepted act leaves a dropped route dropped, or is a clear or a release of it
abbrev Left : Sheets → Situation → Act → ℕ → Type 0
Left t s a r =
    ((state_of (after t s a).inner r ≡ Dropped) × (a ≢ act.Clear r) × (a ≢ act.Release r))
    ⊎ (((a ≡ act.Clear r) ⊎ (a ≡ act.Release r)) × (is_clear (state_of (after t s a).inner r) ≡ false) × (state_of (after t s a).inner r ≢ Dropped))

dropped_stepped : (t : Sheets) (s : Situation) (a : Act) → answer t s a ≡ None → (r : ℕ) → state_of s.inner r ≡ Dropped → Left t s a r
dropped_stepped t s (act.Set q) h r d =
    ⊎_elim
    (λ (same : r ≡ q).
    absurd (false≢true (sym (set_accepted t s q h).new ∙ ap stands (subst (λ k. state_of s.inner k ≡ Dropped) same d))))
    (λ (ne : r ≢ q).
    inl (
      set_state t s q r h ∙ (get_or-set_other s.inner.states q r Waiting Absent ne ∙ d),
      λ e. cc,
      λ e. cc,
    ))
    (cases_eq r q)
dropped_stepped t s (act.Clear q) h r d =
    let again = waits_again (state_of s.inner q) in
    ⊎_elim
    (λ (same : r ≡ q).
    let there : state_of s.inner q ≡ Dropped = subst (λ k. state_of s.inner k ≡ Dropped) same d in
    let waits : state_of (after t s (act.Clear q)).inner r ≡ Waiting =
    clear_state t s q r ∙
    (ap (λ k. state_of (with_state s.inner q again) k) same ∙ (written_dropped s.inner q again there ∙ ap waits_again there)) in
    inr (
      inl (ap (λ (k : ℕ). act.Clear k) (sym same)),
      ap is_clear waits,
      λ e. true≢false (ap is_waiting (sym waits ∙ e)),
    ))
    (λ (ne : r ≢ q).
    inl (
      clear_state t s q r ∙ (get_or-set_other s.inner.states q r again Absent ne ∙ d),
      λ e. ne cc,
      λ e. cc,
    ))
    (cases_eq r q)
dropped_stepped t s (act.Release q) h r d =
    ⊎_elim
    (λ (same : r ≡ q).
    let there : state_of s.inner q ≡ Dropped = subst (λ k. state_of s.inner k ≡ Dropped) same d in
    let gone : state_of (after t s (act.Release q)).inner r ≡ Absent =
    release_state t s q r ∙ (ap (λ k. state_of (with_state s.inner q Absent) k) same ∙ written_dropped s.inner q Absent there) in
    inr (
      inr (ap (λ (k : ℕ). act.Release k) (sym same)),
      ap is_clear gone,
      λ e. false≢true (ap stands (sym gone ∙ e)),
    ))
    (λ (ne : r ≢ q).
    inl (
      release_state t s q r ∙ (get_or-set_other s.inner.states q r Absent Absent ne ∙ d),
      λ e. cc,
      λ e. ne cc,
    ))
    (cases_eq r q)
dropped_stepped t s (act.Tell v) h r d =
    inl (
      d,
      λ e. cc,
      λ e. cc,
    )

-- settling leaves dropped routes dropped, and drops clear ones only
settled_dropped : (t : Sheets) (s : Situation) (r : ℕ) → state_of s.inner r ≡ Dropped → state_of (settle t s).inner r ≡ Dropped
settled_dropped t s r d = go ((rested t s.meant s.inner).changes r)
  where
    go :
        (state_of (settle t s).inner r ≡ state_of s.inner r)
        ⊎ ((state_of s.inner r ≡ Clear) × (state_of (settle t s).inner r ≡ Dropped))
        ⊎ ((state_of s.inner r ≡ Waiting) × (state_of (settle t s).inner r ≡ Clear))
        → state_of (settle t s).inner r ≡ Dropped
    go (inl same) = same ∙ d
    go (inr (inl fell)) = fell.1
    go (inr (inr rose)) = absurd (true≢false (ap is_waiting (sym rose.0 ∙ d)))

settled_other :
    (t : Sheets) (s : Situation) (r : ℕ) → is_clear (state_of s.inner r) ≡ false → state_of s.inner r ≢ Dropped
    → state_of (settle t s).inner r ≢ Dropped
settled_other t s r calm other end = go ((rested t s.meant s.inner).changes r)
  where
    go :
        (state_of (settle t s).inner r ≡ state_of s.inner r)
        ⊎ ((state_of s.inner r ≡ Clear) × (state_of (settle t s).inner r ≡ Dropped))
        ⊎ ((state_of s.inner r ≡ Waiting) × (state_of (settle t s).inner r ≡ Clear))
        → ⊥
    go (inl same) = other (sym same ∙ end)
    go (inr (inl fell)) = false≢true (sym calm ∙ ap is_clear fell.0)
    go (inr (inr rose)) = true≢false (ap is_clear (sym rose.1 ∙ end))

-- an act with this answer is neither an accepted clear nor an accepted release of the route
abbrev Spares : Option Refusal → Act → ℕ → Type 0
Spares o a r = (a ≡ act.Clear r → o ≢ None) × (a ≡ act.Release r → o ≢ None)

pub dropped_unless :
    (t : Sheets) (s : Situation) (a : Act) (o : Option Refusal) → answer t s a ≡ o → (r : ℕ) → state_of s.inner r ≡ Dropped
    → (state_of (unless o t s (after t s a)).inner r ≡ Dropped → Spares o a r)
    × (Spares o a r → state_of (unless o t s (after t s a)).inner r ≡ Dropped)
dropped_unless t s a None h r d =
    let step = after t s a in
    ⊎_elim
    (λ (kept : (state_of step.inner r ≡ Dropped) × (a ≢ act.Clear r) × (a ≢ act.Release r)).
    (λ e. (λ c n. kept.1 c, λ c n. kept.2 c), λ spares. settled_dropped t step r kept.0))
    (λ (left : ((a ≡ act.Clear r) ⊎ (a ≡ act.Release r)) × (is_clear (state_of step.inner r) ≡ false) × (state_of step.inner r ≢ Dropped)). (
      λ e. absurd (settled_other t step r left.1 left.2 e),
      λ spares.
          absurd
          (⊎_elim (λ (c : a ≡ act.Clear r). spares.0 c refl) (λ (c : a ≡ act.Release r). spares.1 c refl) left.0),
    ))
    (dropped_stepped t s a h r d)
dropped_unless t s a (Some x) h r d =
    (λ e. (λ c n. absurd (none-some x (sym n)), λ c n. absurd (none-some x (sym n))), λ spares. d)
