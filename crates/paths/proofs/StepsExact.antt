-- Following a way succeeds exactly where the way runs.
use Rattle.std.proofs.Common.{◌≡◌, ℕ, zero, suc, ◌<◌, Bool, true, false, cond, not, ◌&&◌, ◌||◌, eqb, ltb, ◌⊎◌, List, [], ◌∷◌, length, Some, None, Option, sym, refl, ap, ◌∙◌, inl, inr, arith}
use Rattle.std.proofs.lemmas.Bool.{and_parts, and_from, or_cases, or_left, or_right, not-true, not_from_false, eqb-true, eqb-false, eq-eqb, ne_eqb, ltb-true, lt-ltb, true≢false}
use Rattle.std.specs.Option.{option_or, option_and_then}
use Rattle.layout.specs.declared.element.Element.{Element}
use Rattle.layout.specs.declared.element.Join.{Join}
use Rattle.layout.specs.declared.kind.Kind.{Kind}
use Rattle.layout.specs.declared.kind.Kind.TheVariants as kind
use Rattle.layout.specs.Kinds.{ports, is_point}
use Rattle.layout.specs.Ports.{at, joined}
use Rattle.layout.specs.Sound.{WellJoined}
use Rattle.layout.specs.Ways.{port, place, Turns}
use Rattle.layout.proofs.JoinPorts.{low_cases, joined_low}
use Rattle.paths.specs.Following.{turns, exit_over, exit, step, follows}

point_is : (k : Kind) → k ≡ kind.Point → is_point k ≡ true
point_is k e = rw e

-- a turn passes the test exactly if it is sound and by a port of the kind
pub turns_sound : (k : Kind) (entered left : ℕ) → turns k entered left ≡ true → (left < ports k) × Turns k entered left
turns_sound k entered left t =
    let a : (ltb left (ports k) ≡ true) × ((not (eqb left entered) && (not (is_point k) || (eqb entered 0 || eqb left 0))) ≡ true) = and_parts _ _ t in
    let b : (not (eqb left entered) ≡ true) × ((not (is_point k) || (eqb entered 0 || eqb left 0)) ≡ true) = and_parts _ _ a.1 in (
      ltb-true left (ports k) a.0,
      (
        eqb-false left entered (not-true _ b.0),
        λ e. elim (or_cases (not (is_point k)) _ b.1) [
          | inl n ↦ absurd (true≢false (sym (point_is k e) ∙ not-true _ n))
          | inr o ↦ elim (or_cases (eqb entered 0) _ o) [ inl x ↦ inl (eqb-true entered 0 x) | inr y ↦ inr (eqb-true left 0 y) ]
        ],
      ),
    )

toe_test : (k : Kind) (entered left : ℕ) → (k ≡ kind.Point → (entered ≡ 0) ⊎ (left ≡ 0)) → (not (is_point k) || (eqb entered 0 || eqb left 0)) ≡ true
toe_test kind.Track entered left h = refl
toe_test kind.Derailer entered left h = refl
toe_test kind.Signal entered left h = refl
toe_test kind.PlanEnd entered left h = refl
toe_test kind.Point entered left h =
    elim (h refl) [
      | inl x ↦ or_left (eqb entered 0) (eqb left 0) (eq-eqb entered 0 x)
      | inr y ↦ or_right (eqb entered 0) (eqb left 0) (eq-eqb left 0 y)
    ]

pub turns_from : (k : Kind) (entered left : ℕ) → left < ports k → Turns k entered left → turns k entered left ≡ true
turns_from k entered left l t =
    and_from _ _ (lt-ltb left (ports k) l) (and_from _ _ (not_from_false _ (ne_eqb left entered t.0)) (toe_test k entered left t.1))

-- an exit by a port goes over that port's join, soundly
exit_over_sound : (j : Option Join) (next : ℕ) (sound : Bool) (p : ℕ) → exit_over j next sound ≡ Some p → (j ≡ Some (port next p)) × (sound ≡ true)
exit_over_sound None next sound p e = cc
exit_over_sound (Some j) next sound p e = go (eqb j.element next && sound) refl e
  where
    go : (b : Bool) → (eqb j.element next && sound) ≡ b → cond b (Some j.port) None ≡ Some p → (Some j ≡ Some (port next p)) × (sound ≡ true)
    go false t c = cc
    go true t c =
        let both : (eqb j.element next ≡ true) × (sound ≡ true) = and_parts _ _ t in
        let same : j.element ≡ next = eqb-true j.element next both.0 in
        let entered : j.port ≡ p = cc in
        (ap Some (λ i. record { element = same i; port = entered i }), both.1)

exit_over_from : (j : Option Join) (next : ℕ) (sound : Bool) (p : ℕ) → j ≡ Some (port next p) → sound ≡ true → exit_over j next sound ≡ Some p
exit_over_from j next sound p e s =
    let t : (eqb next next && sound) ≡ true = and_from _ _ (eq-eqb next next refl) s in rw e (rw t)

option_or_cases : (a b : Option ℕ) (p : ℕ) → option_or a b ≡ Some p → (a ≡ Some p) ⊎ (b ≡ Some p)
option_or_cases None b p e = inr e
option_or_cases (Some q) b p e = inl e

-- the next element is entered over the join of some port, soundly
pub record Exits (es : List Element) (from entered next p : ℕ) : Type 0 where
  pub by : ℕ
  pub over : joined es from by ≡ Some (port next p)
  pub sound : turns (at es from).kind entered by ≡ true

exits_by : (es : List Element) (from entered next p left : ℕ) → exit es from entered next left ≡ Some p → Exits es from entered next p
exits_by es from entered next p left e =
    let s : (joined es from left ≡ Some (port next p)) × (turns (at es from).kind entered left ≡ true)
    = exit_over_sound (joined es from left) next (turns (at es from).kind entered left) p e in
    record { by = left; over = s.0; sound = s.1 }

pub step_sound : (es : List Element) (from entered next p : ℕ) → step es from entered next ≡ Some p → Exits es from entered next p
unfolding step
step_sound es from entered next p e =
    elim (option_or_cases (option_or (exit es from entered next 0) (exit es from entered next 1)) (exit es from entered next 2) p e) [
      | inl f ↦ elim (option_or_cases (exit es from entered next 0) (exit es from entered next 1) p f) [
        | inl g ↦ exits_by es from entered next p 0 g
        | inr g ↦ exits_by es from entered next p 1 g
      ]
      | inr f ↦ exits_by es from entered next p 2 f
    ]

-- where each of three is nothing or p, and one is p, the first that is something is p
either_of : (a b c : Option ℕ) (p : ℕ) → (a ≡ None) ⊎ (a ≡ Some p) → (b ≡ None) ⊎ (b ≡ Some p) → (c ≡ None) ⊎ (c ≡ Some p)
    → (a ≡ Some p) ⊎ ((b ≡ Some p) ⊎ (c ≡ Some p)) → option_or (option_or a b) c ≡ Some p
either_of a b c p (inr x) y z w = rw x
either_of a b c p (inl x) (inr y) z w = rw (x, y)
either_of a b c p (inl x) (inl y) (inr z) w = rw (x, y, z)
either_of a b c p (inl x) (inl y) (inl z) (inl w) = cc
either_of a b c p (inl x) (inl y) (inl z) (inr (inl w)) = cc
either_of a b c p (inl x) (inl y) (inl z) (inr (inr w)) = cc

abbrev port_in : Option Join → Option ℕ
port_in None = None
port_in (Some j) = Some j.port

-- at most one join between two elements, so each exit to the next one is nothing or the same
module _ (es : List Element) (well : WellJoined es) (from entered next p by : ℕ) (known : from < length es)
    (over : joined es from by ≡ Some (port next p)) (sound : turns (at es from).kind entered by ≡ true) where
  exit_either : (left : ℕ) (o : Option ℕ) → exit es from entered next left ≡ o → (o ≡ None) ⊎ (o ≡ Some p)
  exit_either left None e = inl refl
  exit_either left (Some q) e =
      let x : (joined es from left ≡ Some (port next q)) × (turns (at es from).kind entered left ≡ true)
      = exit_over_sound (joined es from left) next (turns (at es from).kind entered left) q e in
      let same : left ≡ by = well.once from left by (port next q) (port next p) known x.0 over refl in
      let both : Some (port next q) ≡ Some (port next p) = sym x.0 ∙ ap (λ (n : ℕ). joined es from n) same ∙ over in
      inr (ap port_in both)

  exit_here : exit es from entered next by ≡ Some p
  exit_here = exit_over_from (joined es from by) next (turns (at es from).kind entered by) p over sound

  exit_at : (n : ℕ) → by ≡ n → exit es from entered next n ≡ Some p
  exit_at n e = ap (λ (k : ℕ). exit es from entered next k) (sym e) ∙ exit_here

  pub step_from : step es from entered next ≡ Some p
  unfolding step
  step_from =
      either_of (exit es from entered next 0) (exit es from entered next 1) (exit es from entered next 2) p
      (exit_either 0 _ refl) (exit_either 1 _ refl) (exit_either 2 _ refl)
      (elim (low_cases by (joined_low es from by (port next p) over)) [
        | inl e ↦ inl (exit_at 0 e)
        | inr (inl e) ↦ inr (inl (exit_at 1 e))
        | inr (inr e) ↦ inr (inr (exit_at 2 e))
      ])

-- a way followed to its end: the ports at which it enters and leaves each place
pub record Followed (es : List Element) (from entered : ℕ) (rest : List ℕ) (end : ℕ) : Type 0 where
  pub enters : ℕ → ℕ
  pub leaves : ℕ → ℕ
  pub first : enters 0 ≡ entered
  pub final : enters (length rest) ≡ end
  pub joins : (k : ℕ) → k < length rest → joined es (place (from ∷ rest) k) (leaves k) ≡ Some (port (place (from ∷ rest) (suc k)) (enters (suc k)))
  pub turned : (k : ℕ) → k < length rest → turns (at es (place (from ∷ rest) k)).kind (enters k) (leaves k) ≡ true

-- one more at the front of a row of numbers
abbrev ahead : ℕ → (ℕ → ℕ) → ℕ → ℕ
ahead x f zero = x
ahead x f (suc k) = f k

ahead_joins : (es : List Element) (from entered by : ℕ) (next : ℕ) (rest : List ℕ) (enters leaves : ℕ → ℕ)
    → joined es from by ≡ Some (port next (enters 0))
    → ((k : ℕ) → k < length rest → joined es (place (next ∷ rest) k) (leaves k) ≡ Some (port (place (next ∷ rest) (suc k)) (enters (suc k))))
    → (k : ℕ) → k < suc (length rest)
    → joined es (place (from ∷ next ∷ rest) k) (ahead by leaves k) ≡ Some (port (place (from ∷ next ∷ rest) (suc k)) (ahead entered enters (suc k)))
ahead_joins es from entered by next rest enters leaves here later zero h = here
ahead_joins es from entered by next rest enters leaves here later (suc k) h = later k (omega arith)

ahead_turned : (es : List Element) (from entered by : ℕ) (next : ℕ) (rest : List ℕ) (enters leaves : ℕ → ℕ)
    → turns (at es from).kind entered by ≡ true
    → ((k : ℕ) → k < length rest → turns (at es (place (next ∷ rest) k)).kind (enters k) (leaves k) ≡ true)
    → (k : ℕ) → k < suc (length rest) → turns (at es (place (from ∷ next ∷ rest) k)).kind (ahead entered enters k) (ahead by leaves k) ≡ true
ahead_turned es from entered by next rest enters leaves here later zero h = here
ahead_turned es from entered by next rest enters leaves here later (suc k) h = later k (omega arith)

followed_more : (es : List Element) (from entered next p end : ℕ) (rest : List ℕ)
    → Exits es from entered next p → Followed es next p rest end → Followed es from entered (next ∷ rest) end
followed_more es from entered next p end rest x f = record {
  enters = ahead entered f.enters;
  leaves = ahead x.by f.leaves;
  first = refl;
  final = f.final;
  joins = ahead_joins es from entered x.by next rest f.enters f.leaves (x.over ∙ ap (λ (n : ℕ). Some (port next n)) (sym f.first)) f.joins;
  turned = ahead_turned es from entered x.by next rest f.enters f.leaves x.sound f.turned;
}

pub follows_sound : (es : List Element) (from entered : ℕ) (rest : List ℕ) (end : ℕ) → follows es from entered rest ≡ Some end → Followed es from entered rest end
follows_sound es from entered [] end e =
    let same : entered ≡ end = cc in
    record { enters = λ k. entered; leaves = λ k. 0; first = refl; final = same; joins = λ k h. absurd (omega arith); turned = λ k h. absurd (omega arith) }
follows_sound es from entered (next ∷ rest) end e = go (λ p f. follows_sound es next p rest end f) (step es from entered next) refl e
  where
    go : ((p : ℕ) → follows es next p rest ≡ Some end → Followed es next p rest end) → (o : Option ℕ) → step es from entered next ≡ o → option_and_then (λ p. follows es next p rest) o ≡ Some end → Followed es from entered (next ∷ rest) end
    go later None s f = cc
    go later (Some p) s f = followed_more es from entered next p end rest (step_sound es from entered next p s) (later p f)

pub follows_from : (es : List Element) → WellJoined es → (from entered : ℕ) (rest : List ℕ) (enters leaves : ℕ → ℕ)
    → ((k : ℕ) → k < length rest → place (from ∷ rest) k < length es) → enters 0 ≡ entered
    → ((k : ℕ) → k < length rest → joined es (place (from ∷ rest) k) (leaves k) ≡ Some (port (place (from ∷ rest) (suc k)) (enters (suc k))))
    → ((k : ℕ) → k < length rest → turns (at es (place (from ∷ rest) k)).kind (enters k) (leaves k) ≡ true)
    → follows es from entered rest ≡ Some (enters (length rest))
follows_from es well from entered [] enters leaves within first joins turned = ap Some (sym first)
follows_from es well from entered (next ∷ rest) enters leaves within first joins turned =
    let t : turns (at es from).kind entered (leaves 0) ≡ true = ap (λ (n : ℕ). turns (at es from).kind n (leaves 0)) (sym first) ∙ turned 0 (omega arith) in
    let s : step es from entered next ≡ Some (enters 1) = step_from es well from entered next (enters 1) (leaves 0) (within 0 (omega arith)) (joins 0 (omega arith)) t in
    ap (λ (o : Option ℕ). option_and_then (λ p. follows es next p rest) o) s
    ∙ follows_from es well next (enters 1) rest (λ k. enters (suc k)) (λ k. leaves (suc k))
    (λ k h. within (suc k) (omega arith)) refl (λ k h. joins (suc k) (omega arith)) (λ k h. turned (suc k) (omega arith))
