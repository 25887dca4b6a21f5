-- What the search makes of each meeting, in the words of the subject.
use Rattle.std.proofs.Common.{◌≡◌, ℕ, zero, suc, ◌-◌, ◌<◌, ◌≤◌, Bool, true, false, eqb, ◌≢◌, ◌⊎◌, List, length, get_or, Some, None, Option, sym, refl, ap, ◌∙◌, subst, inl, inr, arith}
use Rattle.std.proofs.lemmas.Bool.{and_parts, and_left, and_from, both_ways, eqb-true, eqb-false, eq-eqb}
use Rattle.layout.specs.declared.element.Element.{Element}
use Rattle.layout.specs.declared.element.Join.{Join}
use Rattle.layout.specs.declared.kind.Kind.{Kind}
use Rattle.layout.specs.declared.kind.Kind.TheVariants as kind
use Rattle.layout.specs.declared.kind.Dual.{Dual}
use Rattle.layout.specs.declared.kind.Dual.TheVariants as dual
use Rattle.layout.specs.declared.kind.Marks.{Marks}
use Rattle.layout.specs.declared.position.Position.{Position}
use Rattle.layout.specs.declared.position.Position.TheVariants as position
use Rattle.layout.specs.declared.route.Route.{Route}
use Rattle.layout.specs.Kinds.{is_signal}
use Rattle.layout.specs.Ports.{at}
use Rattle.layout.specs.Positions.{other}
use Rattle.layout.specs.Ways.{port}
use Rattle.layout.specs.Uses.{Uses, leg}
use Rattle.layout.specs.Sound.{SoundElements}
use Rattle.layout.proofs.KindTests.{signal_test}
use Rattle.flank.specs.declared.meeting.Meeting.{Meeting}
use Rattle.flank.specs.declared.meeting.Meeting.TheVariants.{Ends, Shields, AtToe, AtLeg}
use Rattle.flank.specs.Signals.{far_end, across, onward, is_requested, is_able_signal, passes, along, signal_ports}
use Rattle.flank.specs.Meetings.{other_leg, may_shield, beyond_toe, meets_leg, meets_kind, meets}
use Rattle.flank.proofs.Turns.{along_rests}
use Rattle.walks.specs.Walks.{Is, LeadsPast, Beyond, here, past, Behind, Prefers, both, plus, minus, Able, derailer, signal, point, Counts}
use Rattle.walks.proofs.Net.{Port, far_is, linked}
use Rattle.walks.proofs.Chain.{Chain, starts, goes, across_port, along_stops, along_step, chain_port}

-- what the theorems stand on: sound elements, few enough, and the table of what the route uses
pub record Ground (es : List Element) (r : Route) (used : List Bool) : Type 0 where
  pub sound : SoundElements es
  pub few : length es ≤ 96
  pub to_table : (e : ℕ) → Uses es r e → get_or used e false ≡ true
  pub from_table : (e : ℕ) → get_or used e false ≡ true → Uses es r e

pub no_signal : (k : Kind) → (k ≡ kind.Signal → ⊥) → is_signal k ≡ false
no_signal kind.Track n = refl
no_signal kind.Point n = refl
no_signal kind.Derailer n = refl
no_signal kind.Signal n = absurd (n refl)
no_signal kind.PlanEnd n = refl

-- beyond a toe every signal is passed
passes_all : (es : List Element) (q : Join) → Is kind.Signal es q → passes true es q ≡ true
passes_all es q e = and_from _ _ (ap is_signal e) refl

module _ (es : List Element) (sound : SoundElements es) (few : length es ≤ 96) where
  beyond_along : (n : ℕ) {q : Join} → Chain true es q → passes true es (along true es n q) ≡ false → Beyond es q (along true es n q)
  unfolding along
  beyond_along zero {q} c h = here (λ s. both_ways _ h (passes_all es q s))
  beyond_along (suc n) {q} c h = go (λ d. beyond_along n {q = onward es q} d) (passes true es q) refl
    where
      go : (Chain true es (onward es q) → passes true es (along true es n (onward es q)) ≡ false → Beyond es (onward es q) (along true es n (onward es q)))
          → (b : Bool) → passes true es q ≡ b → Beyond es q (along true es (suc n) q)
      go ih true e =
          let leads : LeadsPast es q (onward es q) = linked es sound (across q) (across_port true es sound few q (chain_port true es sound few c) e) in
          rw (e, along) (past (signal_test _ (and_parts _ _ e).0) leads (ih (goes c e) (rw (e, along) at h)))
      go ih false e = rw (e, along) (here (λ s. both_ways _ e (passes_all es q s)))

  along_beyond : {q r : Join} → Chain true es q → Beyond es q r → along true es signal_ports q ≡ r
  along_beyond {q} c (here n) = along_rests true es signal_ports q (and_left _ _ (no_signal _ n))
  along_beyond {q} c (past {next} s l b) =
      let e = passes_all es q s in
      let on : onward es q ≡ next = far_is es q.element (1 - q.port) next l in
      sym (along_step true es sound few c e) ∙ (ap (along true es signal_ports) on ∙ along_beyond (subst (Chain true es) on (goes c e)) b)

-- a meeting of the port q says this of it
abbrev pub Told : List Element → Route → Join → Meeting → Type 0
Told es r q Ends = ((p : Position) → (Uses es r q.element → ⊥) → Able es r q p → ⊥) × (Counts es r q → ⊥)
Told es r q (Shields p) = (Uses es r q.element → ⊥) × Able es r q p
Told es r q AtToe = Counts es r q × (q.port ≡ 0)
Told es r q AtLeg = Counts es r q × (q.port ≢ 0)

-- an element is of one kind
abbrev code : Kind → ℕ
code kind.Track = 0
code kind.Point = 1
code kind.Derailer = 2
code kind.Signal = 3
code kind.PlanEnd = 4

one_kind : (x k l : Kind) → x ≡ k → x ≡ l → (code k ≡ code l → ⊥) → ⊥
one_kind x k l a b n = n (ap code (sym a ∙ b))

prefers_may : (d : Option Dual) (p : Position) → may_shield d p ≡ true → Prefers d p
prefers_may None p e = both
prefers_may (Some dual.NoPreference) p e = cc
prefers_may (Some dual.PrefersPlus) position.Plus e = plus
prefers_may (Some dual.PrefersPlus) position.Minus e = cc
prefers_may (Some dual.PrefersMinus) position.Plus e = cc
prefers_may (Some dual.PrefersMinus) position.Minus e = minus

may_prefer : {d : Option Dual} {p : Position} → Prefers d p → may_shield d p ≡ true
may_prefer both = refl
may_prefer plus = refl
may_prefer minus = refl

marked_test : (o : Option Marks) → is_requested o ≡ true → (m : Marks) × (o ≡ Some m) × (m.requested ≡ true)
marked_test None e = cc
marked_test (Some m) e = (m, refl, e)

test_marked : (o : Option Marks) → (m : Marks) × (o ≡ Some m) × (m.requested ≡ true) → is_requested o ≡ true
test_marked o h = ap is_requested h.1 ∙ h.2

-- the position of the other leg
leg_other : (p : Position) (n : ℕ) → n ≡ leg (other p) → p ≡ other_leg n
leg_other position.Plus n e = rw e
leg_other position.Minus n e = rw e

leg_is : (p : Position) → 0 < leg p
leg_is position.Plus = omega arith
leg_is position.Minus = omega arith

other_is : (n : ℕ) → n ≢ 0 → n < 3 → n ≡ leg (other (other_leg n))
other_is n a l = go (eqb n 1) refl
  where
    go : (t : Bool) → eqb n 1 ≡ t → n ≡ leg (other (other_leg n))
    go true e = rw e (eqb-true n 1 e)
    go false e = let d = eqb-false n 1 e in rw e (omega arith)

-- in which position an element met at a port may be able
abbrev shields_in : Kind → ℕ → Position
shields_in kind.Track n = position.Plus
shields_in kind.Point n = other_leg n
shields_in kind.Derailer n = position.Plus
shields_in kind.Signal n = position.Plus
shields_in kind.PlanEnd n = position.Plus

-- what is met of a point, or of a signal, that can shield
pub able_point : {es : List Element} {r : Route} {q : Join} {p : Position} → Is kind.Point es q → Able es r q p
    → (q.port ≢ 0) × (Behind es r q.element → ⊥) × Prefers (at es q.element).dual p × (p ≡ other_leg q.port)
able_point i (derailer d) = cc
able_point i (signal s m e) = cc
able_point {q} i (point p k e f b) = ((λ z. let l = leg_is (other p) in omega arith), b, f, leg_other p q.port e)

pub able_signal : {es : List Element} {r : Route} {q : Join} {p : Position} → Is kind.Signal es q → Able es r q p → is_able_signal (at es q.element) q.port ≡ true
able_signal i (derailer d) = cc
able_signal i (signal s m e) = and_from _ _ (test_marked _ m) (eq-eqb _ _ e)
able_signal i (point p k e f b) = cc

pub signal_able : {es : List Element} {r : Route} (q : Join) → Is kind.Signal es q → is_able_signal (at es q.element) q.port ≡ true → Able es r q position.Plus
signal_able q k e = let t = and_parts _ _ e in signal k (marked_test _ t.0) (eqb-true _ _ t.1)

-- in which position what is met shields
pub able_place : {es : List Element} {r : Route} {q : Join} {p : Position} → Able es r q p → p ≡ shields_in (at es q.element).kind q.port
able_place (derailer d) = rw d
able_place (signal s m e) = rw s
able_place {q} (point p k e f b) = rw k (leg_other p q.port e)

-- the kinds that never shield
unable_kind : {es : List Element} {r : Route} {q : Join} {p : Position} (k : Kind) → Is k es q → (code k ≡ 0) ⊎ (code k ≡ 4) → Able es r q p → ⊥
unable_kind k i n (derailer d) = one_kind _ _ _ i d (omega arith)
unable_kind k i n (signal s m e) = one_kind _ _ _ i s (omega arith)
unable_kind k i n (point p t e f b) = one_kind _ _ _ i t (omega arith)

module _ (es : List Element) (r : Route) (used : List Bool) (ground : Ground es r used) where
  toe_chain : (e : ℕ) → e < length es → (at es e).kind ≡ kind.Point → Chain true es (far_end es (port e 0))
  toe_chain e h k = starts (port e 0) (h, rw k (omega arith)) (ap is_signal k)

  test_behind : (e : ℕ) → e < length es → (at es e).kind ≡ kind.Point → get_or used (beyond_toe es e).element false ≡ true → Behind es r e
  test_behind e h k t =
      record {
        next = far_end es (port e 0);
        first = beyond_toe es e;
        toe = linked es ground.sound (port e 0) (h, rw k (omega arith));
        beyond = beyond_along es ground.sound ground.few signal_ports (toe_chain e h k) (along_stops true es ground.sound ground.few (toe_chain e h k));
        uses = ground.from_table _ t;
      }

  behind_test : (e : ℕ) → e < length es → (at es e).kind ≡ kind.Point → Behind es r e → get_or used (beyond_toe es e).element false ≡ true
  behind_test e h k b =
      let next : far_end es (port e 0) ≡ b.next = far_is es e 0 b.next b.toe in
      let first : beyond_toe es e ≡ b.first = ap (along true es signal_ports) next ∙ along_beyond es ground.sound ground.few (subst (Chain true es) next (toe_chain e h k)) b.beyond in
      ap (λ (j : Join). get_or used j.element false) first ∙ ground.to_table _ b.uses

  told_leg : (q : Join) → Port es q → (Uses es r q.element → ⊥) → Is kind.Point es q → q.port ≢ 0 → Told es r q (meets_leg es used q)
  told_leg q h u k n = go _ refl
    where
      clear : (Behind es r q.element → ⊥) → (b : Bool) → may_shield (at es q.element).dual (other_leg q.port) ≡ b
          → Told es r q (elim b [ true ↦ Shields (other_leg q.port) | false ↦ AtLeg ])
      clear b true e = (u, point (other_leg q.port) k (other_is q.port n (rw k at h.1)) (prefers_may _ _ e) b)
      clear b false e = (
        record {
          is_point = k;
          unused = u;
          clear = λ _. b;
          unable = λ p a. let t = able_point k a in both_ways _ e (rw t.3 at (may_prefer t.2));
        },
        n,
      )

      go : (b : Bool) → get_or used (beyond_toe es q.element).element false ≡ b → Told es r q (meets_leg es used q)
      go true e =
          let b = test_behind q.element h.0 k e in
          rw (e, meets_leg) ((λ p _ a. (able_point k a).1 b), λ c. c.clear n b)
      go false e = rw (e, meets_leg) (clear (λ b. both_ways _ e (behind_test q.element h.0 k b)) _ refl)

  told_point : (q : Join) → Port es q → (Uses es r q.element → ⊥) → Is kind.Point es q → Told es r q (meets_kind kind.Point es used q)
  told_point q h u k = go (eqb q.port 0) refl
    where
      go : (t : Bool) → eqb q.port 0 ≡ t → Told es r q (elim t [ true ↦ AtToe | false ↦ meets_leg es used q ])
      go true e =
          let z : q.port ≡ 0 = eqb-true _ _ e in
          (record { is_point = k; unused = u; clear = λ n. absurd (n z); unable = λ p a. (able_point k a).0 z }, z)
      go false e = told_leg q h u k (eqb-false _ _ e)

  told_kind : (q : Join) → Port es q → (Uses es r q.element → ⊥) → (k : Kind) → Is k es q → Told es r q (meets_kind k es used q)
  told_kind q h u kind.Track k = ((λ p _ a. unable_kind kind.Track k (inl refl) a), λ c. one_kind _ _ _ k c.is_point (omega arith))
  told_kind q h u kind.Point k = told_point q h u k
  told_kind q h u kind.Derailer k = (u, derailer k)
  told_kind q h u kind.Signal k = go (is_able_signal (at es q.element) q.port) refl
    where
      go : (t : Bool) → is_able_signal (at es q.element) q.port ≡ t → Told es r q (elim t [ true ↦ Shields position.Plus | false ↦ Ends ])
      go true e = (u, signal_able q k e)
      go false e = ((λ p _ a. both_ways _ e (able_signal k a)), λ c. one_kind _ _ _ k c.is_point (omega arith))
  told_kind q h u kind.PlanEnd k = ((λ p _ a. unable_kind kind.PlanEnd k (inr refl) a), λ c. one_kind _ _ _ k c.is_point (omega arith))

  pub told : (q : Join) → Port es q → Told es r q (meets es used q)
  told q h = go _ refl
    where
      go : (b : Bool) → get_or used q.element false ≡ b → Told es r q (elim b [ true ↦ Ends | false ↦ meets_kind (at es q.element).kind es used q ])
      go true e = let u = ground.from_table _ e in ((λ p n _. n u), λ c. c.unused u)
      go false e = told_kind q h (λ u. both_ways _ e (ground.to_table _ u)) _ refl
