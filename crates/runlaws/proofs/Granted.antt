-- What grants make of the holds: a route comes into holds, and nobody's hold is lost or changes its position.
use Rattle.std.proofs.Common.{◌≡◌, ℕ, zero, suc, ◌<◌, Bool, true, false, not, ◌≢◌, List, [], ◌∷◌, length, get_or, set, Some, None, fold, Option, sym, refl, ap, ◌∙◌, subst, inl, inr, ⊎_elim, arith}
use Rattle.std.specs.List.{list_all}
use Rattle.std.proofs.lemmas.List.{get_or-set_same, get_or-set_other, length-set}
use Rattle.std.proofs.lemmas.Bool.{cases_eq, cond_both, or_cases, or_right, both_ways, false≢true}
use Rattle.layout.specs.declared.position.Position.{Position}
use Rattle.layout.specs.declared.position.Position.TheVariants as position
use Rattle.walks.specs.Exactly.{In}
use Rattle.sheets.specs.declared.sheet.RouteSheet.{RouteSheet}
use Rattle.sheets.specs.Reading.{need_of, request_of}
use Rattle.holds.specs.declared.hold.Hold.{Hold}
use Rattle.holds.specs.declared.interlocking.Interlocking.{Interlocking}
use Rattle.holds.specs.declared.routes.RouteSet.{RouteSet}
use Rattle.holds.specs.Positions.{same}
use Rattle.holds.specs.RouteSets.{contains, with_route, is_empty}
use Rattle.holds.specs.Holds.{free_hold, granted, left_by, open_to}
use Rattle.holds.specs.Interlockings.{hold_of, held_by, with_hold}
use Rattle.holds.specs.Granting.{joined_by, joined_if_any, joined_as, need_choice, grantable, request_choice, take_out, taken_out}
use Rattle.holds.specs.Refusing.{fits_hold, fits}
use Rattle.runlaws.proofs.Lists.{set_case}

pub same_true : (p q : Position) → same p q ≡ true → p ≡ q
same_true position.Plus position.Plus t = refl
same_true position.Plus position.Minus t = absurd (false≢true t)
same_true position.Minus position.Plus t = absurd (false≢true t)
same_true position.Minus position.Minus t = refl

pub same_self : (p : Position) → same p p ≡ true
same_self position.Plus = refl
same_self position.Minus = refl

pub none_true_at : (xs : List Bool) (k : ℕ) → list_all not xs ≡ true → get_or xs k false ≡ false
none_true_at [] k t = refl
none_true_at (true ∷ xs) k t = absurd (false≢true t)
none_true_at (false ∷ xs) zero t = refl
none_true_at (false ∷ xs) (suc k) t = none_true_at xs k t

-- there are 96 holds of 64 routes
pub record Sized (i : Interlocking) : Type 0 where
  pub holds : length i.holds ≡ 96
  pub members : (e : ℕ) → e < 96 → length (hold_of i e).routes.members ≡ 64

-- route r has come into holds: what was held is held in the same position, and nobody else holds more
pub record Grown (r : ℕ) (i j : Interlocking) : Type 0 where
  pub states : j.states ≡ i.states
  pub kept : (q e : ℕ) → held_by i q e ≡ true → (held_by j q e ≡ true) × ((hold_of j e).position ≡ (hold_of i e).position)
  pub others : (q e : ℕ) → q ≢ r → held_by j q e ≡ held_by i q e
  pub sized : Sized i → Sized j

grown_self : (r : ℕ) (i : Interlocking) → Grown r i i
grown_self r i = record { states = refl; kept = λ q e h. (h, refl); others = λ q e ne. refl; sized = λ s. s }

pub grown_then : (r : ℕ) (i j k : Interlocking) → Grown r i j → Grown r j k → Grown r i k
grown_then r i j k a b =
    record {
      states = b.states ∙ a.states;
      kept = λ q e h. let one = a.kept q e h in let two = b.kept q e one.0 in (two.0, two.1 ∙ one.1);
      others = λ q e ne. b.others q e ne ∙ a.others q e ne;
      sized = λ s. b.sized (a.sized s);
    }

sized_hold : (i : Interlocking) (e : ℕ) (h : Hold) → length h.routes.members ≡ length (hold_of i e).routes.members → Sized i → Sized (with_hold i e h)
sized_hold i e h same s =
    record {
      holds = length-set i.holds e h ∙ s.holds;
      members = λ k below.
          ⊎_elim
          (λ (o : hold_of (with_hold i e h) k ≡ hold_of i k). ap (λ (x : Hold). length x.routes.members) o ∙ s.members k below)
          (λ (o : (k ≡ e) × (hold_of (with_hold i e h) k ≡ h)).
          ap (λ (x : Hold). length x.routes.members) o.1 ∙ (same ∙ s.members e (let i = o.0 in omega arith)))
          (set_case i.holds e h free_hold k);
    }

contains_with : (s : RouteSet) (r q : ℕ) → contains s q ≡ true → contains (with_route s r) q ≡ true
contains_with s r q h =
    ⊎_elim (λ (o : contains (with_route s r) q ≡ contains s q). o ∙ h) (λ (o : (q ≡ r) × (contains (with_route s r) q ≡ true)). o.1)
    (set_case s.members r true false q)

pub grown_join : (i : Interlocking) (r e : ℕ) (p : Position) → open_to (hold_of i e) p ≡ true → Grown r i (joined_by i r e p)
grown_join i r e p room =
    let new = granted (hold_of i e) r p in
    let j = with_hold i e new in
    record {
      states = refl;
      kept = λ q k h.
          ⊎_elim
          (λ (o : hold_of j k ≡ hold_of i k). (ap (λ (x : Hold). contains x.routes q) o ∙ h, ap (λ (x : Hold). x.position) o))
          (λ (o : (k ≡ e) × (hold_of j k ≡ new)).
          let here : held_by i q e ≡ true = subst (λ x. held_by i q x ≡ true) o.0 h in
          let before : hold_of i k ≡ hold_of i e = ap (hold_of i) o.0 in (
            ap (λ (x : Hold). contains x.routes q) o.1 ∙ contains_with (hold_of i e).routes r q here,
            ap (λ (x : Hold). x.position) o.1 ∙
                (⊎_elim
                (λ (empty : is_empty (hold_of i e).routes ≡ true). absurd (both_ways (held_by i q e) (none_true_at (hold_of i e).routes.members q empty) here))
                (λ (t : same (hold_of i e).position p ≡ true). sym (same_true (hold_of i e).position p t) ∙ sym (ap (λ (x : Hold). x.position) before))
                (or_cases (is_empty (hold_of i e).routes) (same (hold_of i e).position p) room)),
          ))
          (set_case i.holds e new free_hold k);
      others = λ q k ne.
          ⊎_elim
          (λ (o : hold_of j k ≡ hold_of i k). ap (λ (x : Hold). contains x.routes q) o)
          (λ (o : (k ≡ e) × (hold_of j k ≡ new)).
          ap (λ (x : Hold). contains x.routes q) o.1 ∙
          (get_or-set_other (hold_of i e).routes.members r q true false ne ∙ sym (ap (λ x. held_by i q x) o.0)))
          (set_case i.holds e new free_hold k);
      sized = sized_hold i e new (length-set (hold_of i e).routes.members r true);
    }

grown_need : (i : Interlocking) (r e : ℕ) (w : Option Position) → fits_hold (hold_of i e) w ≡ true → Grown r i (joined_if_any i r e w)
grown_need i r e None f = grown_self r i
grown_need i r e (Some p) f = grown_join i r e p f

pub grown_request : (i : Interlocking) (r e : ℕ) (w : Option Position) → Grown r i (joined_if_any i r e (grantable (hold_of i e) w))
grown_request i r e None = grown_self r i
grown_request i r e (Some p) =
    cond_both (open_to (hold_of i e) p) (Some p) None (λ x. Grown r i (joined_if_any i r e x)) (λ t. grown_join i r e p t) (λ _. grown_self r i)

-- what an element is needed for fits still, once an element is held as it is needed
pub fits_still :
    (s : RouteSheet) (i : Interlocking) (r e : ℕ) (w : Option Position) → need_of s e ≡ w
    → (k : ℕ) → fits s i k ≡ true → fits s (joined_if_any i r e w) k ≡ true
fits_still s i r e None is k f = f
fits_still s i r e (Some p) is k f =
    let new = granted (hold_of i e) r p in
    let j = with_hold i e new in
    ⊎_elim
    (λ (o : hold_of j k ≡ hold_of i k). ap (λ h. fits_hold h (need_of s k)) o ∙ f)
    (λ (o : (k ≡ e) × (hold_of j k ≡ new)).
    ap (λ h. fits_hold h (need_of s k)) o.1 ∙
    (ap (λ x. fits_hold new (need_of s x)) o.0 ∙
    (ap (fits_hold new) is ∙ or_right (is_empty new.routes) (same p p) (same_self p))))
    (set_case i.holds e new free_hold k)

module _ (s : RouteSheet) (r : ℕ) where
  pub grown_requests : (xs : List ℕ) (i : Interlocking) → Grown r i (fold (joined_as (request_choice s) r) i xs)
  grown_requests [] i = grown_self r i
  grown_requests (x ∷ xs) i =
      let j = joined_as (request_choice s) r i x in
      grown_then r i j (fold (joined_as (request_choice s) r) j xs) (grown_request i r x (request_of s x)) (grown_requests xs j)

  pub grown_needs : (xs : List ℕ) (i : Interlocking) → ((k : ℕ) → In k xs → fits s i k ≡ true) → Grown r i (fold (joined_as (need_choice s) r) i xs)
  grown_needs [] i f = grown_self r i
  grown_needs (x ∷ xs) i f =
      let j = joined_as (need_choice s) r i x in
      grown_then r i j (fold (joined_as (need_choice s) r) j xs) (grown_need i r x (need_of s x) (f x (inl refl)))
      (grown_needs xs j (λ k h. fits_still s i r x (need_of s x) refl k (f k (inr h))))

pub need_held :
    (i : Interlocking) (r e : ℕ) (w : Option Position) (p : Position) → w ≡ Some p → Sized i → e < 96 → r < 64
    → (held_by (joined_if_any i r e w) r e ≡ true) × ((hold_of (joined_if_any i r e w) e).position ≡ p)
need_held i r e None p is s below route = absurd (let z : ◌≡◌ {A = ℕ} 0 1 = cc in let no : ⊥ = omega arith in no)
need_held i r e (Some x) p is s below route =
    let new = granted (hold_of i e) r x in
    let long = s.holds in
    let wide = s.members e below in
    let at : hold_of (with_hold i e new) e ≡ new = get_or-set_same i.holds e new free_hold (omega arith) in
    let one : x ≡ p = cc in
    (ap (λ (h : Hold). contains h.routes r) at ∙ get_or-set_same (hold_of i e).routes.members r true false (omega arith), ap (λ (h : Hold). h.position) at ∙ one)

-- what a route needs, it holds as it needs it
pub needs_held :
    (s : RouteSheet) (r : ℕ) → r < 64 → (xs : List ℕ) (i : Interlocking) → Sized i → ((k : ℕ) → In k xs → fits s i k ≡ true)
    → (k : ℕ) (p : Position) → k < 96 → In k xs → need_of s k ≡ Some p
    → (held_by (fold (joined_as (need_choice s) r) i xs) r k ≡ true) × ((hold_of (fold (joined_as (need_choice s) r) i xs) k).position ≡ p)
needs_held s r route [] i sized f k p below member is = absurd member
needs_held s r route (x ∷ xs) i sized f k p below member is =
    let j = joined_as (need_choice s) r i x in
    let step : Grown r i j = grown_need i r x (need_of s x) (f x (inl refl)) in
    let later : (k : ℕ) → In k xs → fits s j k ≡ true = λ k h. fits_still s i r x (need_of s x) refl k (f k (inr h)) in
    ⊎_elim
    (λ (here : x ≡ k).
    let now : (held_by j r x ≡ true) × ((hold_of j x).position ≡ p) =
    need_held i r x (need_of s x) p (ap (need_of s) here ∙ is) sized (omega arith) route in
    let stays = (grown_needs s r xs j later).kept r x now.0 in
    subst (λ y. (held_by (fold (joined_as (need_choice s) r) j xs) r y ≡ true) × ((hold_of (fold (joined_as (need_choice s) r) j xs) y).position ≡ p)) here
    (stays.0, stays.1 ∙ now.1))
    (λ (rest : In k xs). needs_held s r route xs j (step.sized sized) later k p below rest is)
    member

-- route r has gone out of holds
pub record Shrunk (r : ℕ) (i j : Interlocking) : Type 0 where
  pub states : j.states ≡ i.states
  pub positions : (e : ℕ) → (hold_of j e).position ≡ (hold_of i e).position
  pub others : (q e : ℕ) → q ≢ r → held_by j q e ≡ held_by i q e
  pub sized : Sized i → Sized j

shrunk_out : (i : Interlocking) (r e : ℕ) → Shrunk r i (take_out i r e)
shrunk_out i r e =
    let new = left_by (hold_of i e) r in
    let j = with_hold i e new in
    record {
      states = refl;
      positions = λ k.
          ⊎_elim (λ (o : hold_of j k ≡ hold_of i k). ap (λ (x : Hold). x.position) o)
          (λ (o : (k ≡ e) × (hold_of j k ≡ new)). ap (λ (x : Hold). x.position) o.1 ∙ ap (λ x. (hold_of i x).position) (sym o.0))
          (set_case i.holds e new free_hold k);
      others = λ q k ne.
          ⊎_elim
          (λ (o : hold_of j k ≡ hold_of i k). ap (λ (x : Hold). contains x.routes q) o)
          (λ (o : (k ≡ e) × (hold_of j k ≡ new)).
          ap (λ (x : Hold). contains x.routes q) o.1 ∙
          (get_or-set_other (hold_of i e).routes.members r q false false ne ∙ sym (ap (λ x. held_by i q x) o.0)))
          (set_case i.holds e new free_hold k);
      sized = sized_hold i e new (length-set (hold_of i e).routes.members r false);
    }

pub shrunk_all : (i : Interlocking) (r n : ℕ) → Shrunk r i (taken_out i r n)
unfolding taken_out
shrunk_all i r zero = record { states = refl; positions = λ e. refl; others = λ q e ne. refl; sized = λ s. s }
shrunk_all i r (suc n) =
    let a = shrunk_all i r n in
    let b = shrunk_out (taken_out i r n) r n in
    record {
      states = b.states ∙ a.states;
      positions = λ e. b.positions e ∙ a.positions e;
      others = λ q e ne. b.others q e ne ∙ a.others q e ne;
      sized = λ s. b.sized (a.sized s);
    }

cleared : (xs : List Bool) (r : ℕ) → get_or (set xs r false) r false ≡ false
cleared [] r = refl
cleared (x ∷ xs) zero = refl
cleared (x ∷ xs) (suc r) = cleared xs r

out_one : (i : Interlocking) (r e : ℕ) → e < length i.holds → held_by (take_out i r e) r e ≡ false
out_one i r e within =
    let new = left_by (hold_of i e) r in
    ap (λ (x : Hold). contains x.routes r) (get_or-set_same i.holds e new free_hold within) ∙ cleared (hold_of i e).routes.members r

pub all_out : (i : Interlocking) (r n : ℕ) → Sized i → (k : ℕ) → k < n → k < 96 → held_by (taken_out i r n) r k ≡ false
unfolding taken_out
all_out i r zero s k below few = absurd (omega arith)
all_out i r (suc n) s k below few =
    let j = taken_out i r n in
    let long = ((shrunk_all i r n).sized s).holds in
    ⊎_elim
    (λ (at : k ≡ n). subst (λ x. held_by (take_out j r n) r x ≡ false) (sym at) (out_one j r n (omega arith)))
    (λ ne. ap (λ (x : Hold). contains x.routes r) (get_or-set_other j.holds n k _ free_hold ne) ∙ all_out i r n s k (omega arith) few)
    (cases_eq k n)
