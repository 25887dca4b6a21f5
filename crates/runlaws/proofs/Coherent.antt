-- What every situation of a run has, and that each act keeps it.
use Rattle.std.proofs.Common.{◌≡◌, ℕ, zero, suc, ◌<◌, ◌≤◌, Bool, true, false, cond, not, nat_eq, ◌&&◌, ◌||◌, ◌≢◌, ◌⊎◌, List, length, get_or, set, replicate, Some, None, Option, sym, refl, ap, ◌∙◌, subst, inl, inr, ⊎_elim, arith}
use Rattle.std.proofs.lemmas.List.{get_or-set_same, get_or-set_other, length-set, get_or_past}
use Rattle.std.proofs.lemmas.Option.{none-some}
use Rattle.std.proofs.lemmas.Bool.{cases_eq, cases_lt, or_cases, and_parts, and_cases, both_ways, false≢true, true≢false, not-true, not-false, ltb-true}
use Rattle.layout.specs.declared.position.Position.{Position}
use Rattle.layout.proofs.EveryTurn.{every_each}
use Rattle.walks.specs.Exactly.{In}
use Rattle.field.specs.Meaning.{Meaning}
use Rattle.refusals.specs.declared.refusal.Refusal.{Refusal}
use Rattle.refusals.specs.declared.refusal.Refusal.TheVariants as refusal
use Rattle.sheets.specs.declared.sheet.Sheets.{Sheets}
use Rattle.sheets.specs.Reading.{route_count, route_sheet, has_route, need_of, on_path, uses, wanted_by, used_by}
use Rattle.holds.specs.declared.hold.Hold.{Hold}
use Rattle.holds.specs.declared.interlocking.Interlocking.{Interlocking}
use Rattle.holds.specs.declared.state.RouteState.{RouteState}
use Rattle.holds.specs.declared.state.RouteState.TheVariants.{Absent, Waiting, Clear, Dropped}
use Rattle.holds.specs.RouteSets.{contains}
use Rattle.holds.specs.Holds.{free_hold}
use Rattle.holds.specs.States.{stands, waits_again}
use Rattle.holds.specs.Interlockings.{idle, hold_of, held_by, state_of, with_state}
use Rattle.holds.specs.Granting.{needs_granted, taken_up, tried_again, given_up}
use Rattle.holds.proofs.Admitting.{all_admit_numbered}
use Rattle.holds.specs.Refusing.{excuses, clashes, clear_of, apart, admits, all_admit, fits, all_fit, set_refusal, clear_refusal}
use Rattle.readiness.specs.Readiness.{ready}
use Rattle.readiness.specs.Settling.{settled}
use Rattle.acts.specs.declared.act.Act.{Act}
use Rattle.acts.specs.declared.act.Act.TheVariants as act
use Rattle.acts.specs.Situations.{Situation, situation, opened}
use Rattle.acts.specs.Answers.{answer, release_refusal}
use Rattle.acts.specs.Acts.{after, unless, performed}
use Rattle.runlaws.specs.Lawful.{Uses, Excused, Lawful}
use Rattle.runlaws.specs.Settled.{at, with_states}
use Rattle.std.specs.Option.{option_eq}
use Rattle.sheets.proofs.SomeNumber.{number_is}
use Rattle.runlaws.proofs.Lists.{list_all_each, set_case}
use Rattle.runlaws.proofs.Readying.{rested_in, settled_is, rested, rested_length}
use Rattle.runlaws.proofs.Granted.{Sized, Grown, Shrunk, grown_then, grown_requests, grown_needs, needs_held, shrunk_all, all_out}

-- what holds before settling as well
pub record Sound (t : Sheets) (i : Interlocking) : Type 0 where
  pub states : length i.states ≡ 64
  pub sized : Sized i
  pub routes : (r : ℕ) → stands (state_of i r) ≡ true → has_route t r ≡ true
  pub held :
      (r e : ℕ) (p : Position) → stands (state_of i r) ≡ true → need_of (route_sheet t r) e ≡ Some p
      → (held_by i r e ≡ true) × ((hold_of i e).position ≡ p)
  pub absent : (r e : ℕ) → stands (state_of i r) ≡ false → held_by i r e ≡ false
  pub apart :
      (a b : ℕ) → a ≢ b → stands (state_of i a) ≡ true → stands (state_of i b) ≡ true
      → (x : ℕ) → Uses t a x → Uses t b x → Excused t a b x ⊎ Excused t b a x

pub record Coherent (t : Sheets) (s : Situation) : Type 0 where
  pub sound : Sound t s.inner
  pub clear : (r : ℕ) → state_of s.inner r ≡ Clear → ready t s.inner s.meant r ≡ true

-- opening
pub all_same : {A : Type 0} (n : ℕ) (x : A) (k : ℕ) → get_or (replicate n x) k x ≡ x
all_same zero x k = refl
all_same (suc n) x zero = refl
all_same (suc n) x (suc k) = all_same n x k

pub hold_idle : (e : ℕ) → hold_of idle e ≡ free_hold
unfolding idle
hold_idle e = all_same 96 free_hold e

state_idle : (r : ℕ) → state_of idle r ≡ Absent
unfolding idle
state_idle r = all_same 64 Absent r

holds_idle : length idle.holds ≡ 96
unfolding idle
holds_idle = refl

states_idle : length idle.states ≡ 64
unfolding idle
states_idle = refl

nobody : {X : Type 0} (r : ℕ) → stands (state_of idle r) ≡ true → X
nobody r st = absurd (false≢true (sym (ap stands (state_idle r)) ∙ st))

pub opened_coherent : (t : Sheets) (m : Meaning) → Coherent t (opened m)
opened_coherent t m =
    record {
      sound = record {
        states = states_idle;
        sized = record { holds = holds_idle; members = λ e below. ap (λ (h : Hold). length h.routes.members) (hold_idle e) };
        routes = λ r st. nobody r st;
        held = λ r e p st need. nobody r st;
        absent = λ r e st. ap (λ (h : Hold). contains h.routes r) (hold_idle e) ∙ all_same 64 false r;
        apart = λ a b ne sa sb x ua ub. nobody a sa;
      };
      clear = λ r c. absurd (false≢true (ap stands (sym (state_idle r) ∙ c)));
    }

-- settling
sound_restated :
    (t : Sheets) (i : Interlocking) (ss : List RouteState) → length ss ≡ 64 → ((k : ℕ) → stands (at ss k) ≡ stands (state_of i k))
    → Sound t i → Sound t (with_states i ss)
sound_restated t i ss size same s =
    record {
      states = size;
      sized = record { holds = s.sized.holds; members = s.sized.members };
      routes = λ r st. s.routes r (sym (same r) ∙ st);
      held = λ r e p st need. s.held r e p (sym (same r) ∙ st) need;
      absent = λ r e st. s.absent r e (sym (same r) ∙ st);
      apart = λ a b ne sa sb. s.apart a b ne (sym (same a) ∙ sa) (sym (same b) ∙ sb);
    }

pub route_counts : (t : Sheets) (r : ℕ) → has_route t r ≡ true → r < route_count t
route_counts t r h = ltb-true r (route_count t) h

settled_sound : (t : Sheets) (m : Meaning) (i : Interlocking) → Sound t i → Sound t (settled t m i)
settled_sound t m i s =
    let is = settled_is t m i in
    let who : (k : ℕ) → stands (at (rested_in t m i) k) ≡ stands (state_of i k) = λ k. sym (ap (λ (j : Interlocking). stands (state_of j k)) is) ∙ (rested t m i).stand k in
    subst (Sound t) (sym is) (sound_restated t i (rested_in t m i) (rested_length t m i ∙ s.states) who s)

settled_coherent : (t : Sheets) (m : Meaning) (i : Interlocking) → Sound t i → Coherent t (situation (settled t m i) m)
settled_coherent t m i s =
    let end = settled_sound t m i s in
    record { sound = end; clear = λ r c. (rested t m i).clear r (route_counts t r (end.routes r (ap stands c))) c }

-- excuses
excused : (t : Sheets) (a b x : ℕ) → excuses (route_sheet t a) (route_sheet t b) x ≡ true → Excused t a b x
excused t a b x h =
    let parts = and_parts (option_eq nat_eq (route_sheet t a).last_signal (Some (route_sheet t b).first)) (not (on_path (route_sheet t a) x)) h in
    (number_is (route_sheet t a).last_signal (route_sheet t b).first parts.0, not-true (on_path (route_sheet t a) x) parts.1)

no_clash : (t : Sheets) (a b x : ℕ) → clear_of (route_sheet t a) (route_sheet t b) x ≡ true → Uses t b x → Excused t a b x ⊎ Excused t b a x
no_clash t a b x h ub =
    let one = excuses (route_sheet t a) (route_sheet t b) x in
    let two = excuses (route_sheet t b) (route_sheet t a) x in
    let clean : (uses (route_sheet t b) x && not (one || two)) ≡ false = not-true (clashes (route_sheet t a) (route_sheet t b) x) h in
    ⊎_elim
    (λ (n : uses (route_sheet t b) x ≡ false). absurd (both_ways (uses (route_sheet t b) x) n ub))
    (λ (n : not (one || two) ≡ false).
    ⊎_elim
    (λ (y : one ≡ true). inl (excused t a b x y))
    (λ (y : two ≡ true). inr (excused t b a x y))
    (or_cases one two (not-false (one || two) n)))
    (and_cases (uses (route_sheet t b) x) (not (one || two)) clean)

-- what an admitted route shares with a standing one is excused
pub admitted_apart :
    (t : Sheets) → Lawful t → (i : Interlocking) (r : ℕ) → has_route t r ≡ true → all_admit t (route_sheet t r) i ≡ true → (q x : ℕ)
    → has_route t q ≡ true → stands (state_of i q) ≡ true → Uses t r x → Uses t q x → Excused t r q x ⊎ Excused t q r x
admitted_apart t law i r route admit q x known st ur uq =
    let sheet = route_sheet t r in
    let other = route_sheet t q in
    let admitted = every_each (λ k. admits sheet i k (route_sheet t k)) (route_count t) 0 (sym (all_admit_numbered t sheet i) ∙ admit) q (omega arith) (omega (arith, route_counts t q known)) in
    ⊎_elim
    (λ (n : not (stands (state_of i q)) ≡ true). absurd (both_ways (stands (state_of i q)) (not-true (stands (state_of i q)) n) st))
    (λ (clear : apart sheet other ≡ true).
    no_clash t r q x (list_all_each (clear_of sheet other) (used_by sheet) clear x (law.used r x route ur).1) uq)
    (or_cases (not (stands (state_of i q))) (apart sheet other) admitted)

-- answers
pub passes_test : (b : Bool) (x : Option Refusal) (y : Refusal) → cond b x (Some y) ≡ None → (b ≡ true) × (x ≡ None)
passes_test true x y e = (refl, e)
passes_test false x y e = absurd (none-some y (sym e))

fails_test : (b : Bool) (x : Refusal) (y : Option Refusal) → cond b (Some x) y ≡ None → (b ≡ false) × (y ≡ None)
fails_test true x y e = absurd (none-some x (sym e))
fails_test false x y e = (refl, e)

-- a route is the one whose state was written, or has the state that it had
pub state_which :
    (i : Interlocking) (r : ℕ) (y : RouteState) → r < 64 → length i.states ≡ 64 → (q : ℕ)
    → ((q ≢ r) × (state_of (with_state i r y) q ≡ state_of i q)) ⊎ ((q ≡ r) × (state_of (with_state i r y) q ≡ y))
state_which i r y below size q =
    ⊎_elim
    (λ (at : q ≡ r). inr (at, ap (λ x. get_or (set i.states r y) x Absent) at ∙ get_or-set_same i.states r y Absent (omega arith)))
    (λ ne. inl (ne, get_or-set_other i.states r q y Absent ne))
    (cases_eq q r)

-- set
pub record Accepted (t : Sheets) (i : Interlocking) (r : ℕ) : Type 0 where
  pub route : has_route t r ≡ true
  pub new : stands (state_of i r) ≡ false
  pub admit : all_admit t (route_sheet t r) i ≡ true
  pub fit : all_fit (route_sheet t r) i ≡ true

pub set_accepted : (t : Sheets) (s : Situation) (r : ℕ) → answer t s (act.Set r) ≡ None → Accepted t s.inner r
set_accepted t s r h =
    let i = s.inner in
    let sheet = route_sheet t r in
    let a = passes_test (has_route t r) (set_refusal t sheet r i) refusal.NoSuchRoute h in
    let b = fails_test (stands (state_of i r)) refusal.StandsAlready (cond (all_admit t sheet i) (cond (all_fit sheet i) None (Some refusal.HeldOtherwise)) (Some refusal.SectionInUse)) a.1 in
    let c = passes_test (all_admit t sheet i) (cond (all_fit sheet i) None (Some refusal.HeldOtherwise)) refusal.SectionInUse b.1 in
    let d = passes_test (all_fit sheet i) None refusal.HeldOtherwise c.1 in
    record { route = a.0; new = b.0; admit = c.0; fit = d.0 }

module _ (t : Sheets) (i : Interlocking) (r : ℕ) (ok : Accepted t i r) where
  abbrev start : Interlocking
  start = with_state i r Waiting

  pub fit_each : (k : ℕ) → In k (wanted_by (route_sheet t r)) → fits (route_sheet t r) start k ≡ true
  fit_each k h = list_all_each (fits (route_sheet t r) i) (wanted_by (route_sheet t r)) ok.fit k h

  pub grown_set : Grown r (with_state i r Waiting) (taken_up (route_sheet t r) r i)
  grown_set =
      let own = needs_granted (route_sheet t r) r start in
      grown_then r start own (taken_up (route_sheet t r) r i) (grown_needs (route_sheet t r) r (wanted_by (route_sheet t r)) start fit_each)
      (grown_requests (route_sheet t r) r (wanted_by (route_sheet t r)) own)

  module _ (law : Lawful t) where
    pub new_apart :
        (q x : ℕ) → has_route t q ≡ true → stands (state_of i q) ≡ true → Uses t r x → Uses t q x → Excused t r q x ⊎ Excused t q r x
    new_apart = admitted_apart t law i r ok.route ok.admit

    pub sound_set : Sound t i → Sound t (taken_up (route_sheet t r) r i)
    sound_set s =
        let sheet = route_sheet t r in
        let own = needs_granted sheet r start in
        let j = taken_up sheet r i in
        let below : r < 64 = omega (arith, law.few, route_counts t r ok.route) in
        let sizes : Sized start = record { holds = s.sized.holds; members = s.sized.members } in
        let g2 : Grown r own j = grown_requests sheet r (wanted_by sheet) own in
        let g : Grown r start j = grown_set in
        let now : (q : ℕ) → state_of j q ≡ state_of start q = λ q. ap (λ ss. get_or ss q Absent) g.states in
        let which : (q : ℕ) → ((q ≢ r) × (state_of start q ≡ state_of i q)) ⊎ ((q ≡ r) × (state_of start q ≡ Waiting)) = state_which i r Waiting below s.states in
        record {
          states = ap length g.states ∙ (length-set i.states r Waiting ∙ s.states);
          sized = g.sized sizes;
          routes = λ q st.
              ⊎_elim
              (λ (o : (q ≢ r) × (state_of start q ≡ state_of i q)). s.routes q (sym (ap stands (now q ∙ o.1)) ∙ st))
              (λ (o : (q ≡ r) × (state_of start q ≡ Waiting)). subst (λ x. has_route t x ≡ true) (sym o.0) ok.route)
              (which q);
          held = λ q e p st need.
              ⊎_elim
              (λ (o : (q ≢ r) × (state_of start q ≡ state_of i q)).
              let old = s.held q e p (sym (ap stands (now q ∙ o.1)) ∙ st) need in
              let k = g.kept q e old.0 in
              (k.0, k.1 ∙ old.1))
              (λ (o : (q ≡ r) × (state_of start q ≡ Waiting)).
              let mine : need_of sheet e ≡ Some p = subst (λ x. need_of (route_sheet t x) e ≡ Some p) o.0 need in
              let listed = law.needed r e p ok.route mine in
              let first = needs_held sheet r below (wanted_by sheet) start sizes fit_each e p listed.0 listed.1 mine in
              let k = g2.kept r e first.0 in
              subst (λ x. (held_by j x e ≡ true) × ((hold_of j e).position ≡ p)) (sym o.0) (k.0, k.1 ∙ first.1))
              (which q);
          absent = λ q e st.
              ⊎_elim
              (λ (o : (q ≢ r) × (state_of start q ≡ state_of i q)). g.others q e o.0 ∙ s.absent q e (sym (ap stands (now q ∙ o.1)) ∙ st))
              (λ (o : (q ≡ r) × (state_of start q ≡ Waiting)). absurd (true≢false (sym (ap stands (now q ∙ o.1)) ∙ st)))
              (which q);
          apart = λ a b ne sa sb x ua ub.
              ⊎_elim
              (λ (oa : (a ≢ r) × (state_of start a ≡ state_of i a)).
              ⊎_elim
              (λ (ob : (b ≢ r) × (state_of start b ≡ state_of i b)).
              s.apart a b ne (sym (ap stands (now a ∙ oa.1)) ∙ sa) (sym (ap stands (now b ∙ ob.1)) ∙ sb) x ua ub)
              (λ (ob : (b ≡ r) × (state_of start b ≡ Waiting)).
              ⊎_elim
              (λ (e : Excused t r a x). inr (subst (λ y. Excused t y a x) (sym ob.0) e))
              (λ (e : Excused t a r x). inl (subst (λ y. Excused t a y x) (sym ob.0) e))
              (let up = sym (ap stands (now a ∙ oa.1)) ∙ sa in new_apart a x (s.routes a up) up (subst (λ y. Uses t y x) ob.0 ub) ua))
              (which b))
              (λ (oa : (a ≡ r) × (state_of start a ≡ Waiting)).
              ⊎_elim
              (λ (ob : (b ≢ r) × (state_of start b ≡ state_of i b)).
              ⊎_elim
              (λ (e : Excused t r b x). inl (subst (λ y. Excused t y b x) (sym oa.0) e))
              (λ (e : Excused t b r x). inr (subst (λ y. Excused t b y x) (sym oa.0) e))
              (let up = sym (ap stands (now b ∙ ob.1)) ∙ sb in new_apart b x (s.routes b up) up (subst (λ y. Uses t y x) oa.0 ua) ub))
              (λ (ob : (b ≡ r) × (state_of start b ≡ Waiting)). absurd (ne (oa.0 ∙ sym ob.0)))
              (which b))
              (which a);
        }

-- clear
waits_stands : (x : RouteState) → stands (waits_again x) ≡ stands x
waits_stands Absent = refl
waits_stands Waiting = refl
waits_stands Clear = refl
waits_stands Dropped = refl

pub again_stands : (i : Interlocking) (r k : ℕ) → stands (at (set i.states r (waits_again (state_of i r))) k) ≡ stands (state_of i k)
again_stands i r k =
    let y = waits_again (state_of i r) in
    ⊎_elim
    (λ (o : at (set i.states r y) k ≡ state_of i k). ap stands o)
    (λ (o : (k ≡ r) × (at (set i.states r y) k ≡ y)). ap stands o.1 ∙ (waits_stands (state_of i r) ∙ ap (λ x. stands (state_of i x)) (sym o.0)))
    (set_case i.states r y Absent k)

sound_grown : (t : Sheets) (i j : Interlocking) (r : ℕ) → Grown r i j → stands (state_of i r) ≡ true → Sound t i → Sound t j
sound_grown t i j r g up s =
    let now : (q : ℕ) → stands (state_of j q) ≡ stands (state_of i q) = λ q. ap (λ ss. stands (get_or ss q Absent)) g.states in
    record {
      states = ap length g.states ∙ s.states;
      sized = g.sized s.sized;
      routes = λ q st. s.routes q (sym (now q) ∙ st);
      held = λ q e p st need. let old = s.held q e p (sym (now q) ∙ st) need in let k = g.kept q e old.0 in (k.0, k.1 ∙ old.1);
      absent = λ q e st.
          ⊎_elim
          (λ (o : q ≡ r). absurd (both_ways (stands (state_of i r)) (subst (λ x. stands (state_of i x) ≡ false) o (sym (now q) ∙ st)) up))
          (λ ne. g.others q e ne ∙ s.absent q e (sym (now q) ∙ st))
          (cases_eq q r);
      apart = λ a b ne sa sb. s.apart a b ne (sym (now a) ∙ sa) (sym (now b) ∙ sb);
    }

sound_clear : (t : Sheets) (s : Situation) (r : ℕ) → Sound t s.inner → answer t s (act.Clear r) ≡ None → Sound t (tried_again (route_sheet t r) r s.inner)
sound_clear t s r sound h =
    let i = s.inner in
    let again = with_state i r (waits_again (state_of i r)) in
    let up : stands (state_of i r) ≡ true = (passes_test (stands (state_of i r)) None refusal.NotStanding (passes_test (has_route t r) (clear_refusal r i) refusal.NoSuchRoute h).1).0 in
    sound_grown t again (tried_again (route_sheet t r) r i) r (grown_requests (route_sheet t r) r (wanted_by (route_sheet t r)) again) (again_stands i r r ∙ up)
    (sound_restated t i (set i.states r (waits_again (state_of i r))) (length-set i.states r _ ∙ sound.states) (again_stands i r) sound)

-- release
pub release_route : (t : Sheets) (s : Situation) (r : ℕ) → answer t s (act.Release r) ≡ None → has_route t r ≡ true
release_route t s r h = (passes_test (has_route t r) (release_refusal (route_sheet t r) r s.inner s.meant) refusal.NoSuchRoute h).0

sound_release : (t : Sheets) (i : Interlocking) (r : ℕ) → Sound t i → r < 64 → Sound t (given_up r i)
sound_release t i r s below =
    let out = with_state i r Absent in
    let j = given_up r i in
    let sizes : Sized out = record { holds = s.sized.holds; members = s.sized.members } in
    let g : Shrunk r out j = shrunk_all out r 96 in
    let now : (q : ℕ) → state_of j q ≡ state_of out q = λ q. ap (λ ss. get_or ss q Absent) g.states in
    let which : (q : ℕ) → ((q ≢ r) × (state_of out q ≡ state_of i q)) ⊎ ((q ≡ r) × (state_of out q ≡ Absent)) = state_which i r Absent below s.states in
    let there : (q : ℕ) → stands (state_of j q) ≡ true → (q ≢ r) × (stands (state_of i q) ≡ true) = λ q st.
    ⊎_elim
    (λ (o : (q ≢ r) × (state_of out q ≡ state_of i q)). (o.0, sym (ap stands (now q ∙ o.1)) ∙ st))
    (λ (o : (q ≡ r) × (state_of out q ≡ Absent)). absurd (false≢true (sym (ap stands (now q ∙ o.1)) ∙ st)))
    (which q) in
    record {
      states = ap length g.states ∙ (length-set i.states r Absent ∙ s.states);
      sized = g.sized sizes;
      routes = λ q st. s.routes q (there q st).1;
      held = λ q e p st need.
          let old = s.held q e p (there q st).1 need in
          (g.others q e (there q st).0 ∙ old.0, g.positions e ∙ old.1);
      absent = λ q e st.
          ⊎_elim
          (λ (o : (q ≢ r) × (state_of out q ≡ state_of i q)). g.others q e o.0 ∙ s.absent q e (sym (ap stands (now q ∙ o.1)) ∙ st))
          (λ (o : (q ≡ r) × (state_of out q ≡ Absent)).
          subst (λ x. held_by j x e ≡ false) (sym o.0)
          (⊎_elim
          (λ (within : e < 96). all_out out r 96 sizes e within within)
          (λ (past : 96 ≤ e).
          let long = (g.sized sizes).holds in
          ap (λ (h : Hold). contains h.routes r) (get_or_past j.holds e free_hold (omega arith)) ∙ all_same 64 false r)
          (cases_lt e 96)))
          (which q);
      apart = λ a b ne sa sb. s.apart a b ne (there a sa).1 (there b sb).1;
    }

-- every act
sound_after : (t : Sheets) → Lawful t → (s : Situation) (a : Act) → Sound t s.inner → answer t s a ≡ None → Sound t (after t s a).inner
sound_after t law s (act.Set r) sound h = sound_set t s.inner r (set_accepted t s r h) law sound
sound_after t law s (act.Clear r) sound h = sound_clear t s r sound h
sound_after t law s (act.Release r) sound h =
    sound_release t s.inner r sound (omega (arith, law.few, route_counts t r (release_route t s r h)))
sound_after t law s (act.Tell v) sound h = sound

coherent_unless :
    (t : Sheets) → Lawful t → (s : Situation) (a : Act) → Coherent t s → (o : Option Refusal) → answer t s a ≡ o
    → Coherent t (unless o t s (after t s a))
coherent_unless t law s a c None h = settled_coherent t (after t s a).meant (after t s a).inner (sound_after t law s a c.sound h)
coherent_unless t law s a c (Some x) h = c

pub performed_coherent : (t : Sheets) → Lawful t → (s : Situation) (a : Act) → Coherent t s → Coherent t (performed t s a)
performed_coherent t law s a c = coherent_unless t law s a c (answer t s a) refl
