-- Which refusal an act gets.
use Rattle.std.proofs.Common.{◌≡◌, ℕ, suc, Bool, true, false, cond, not, ◌&&◌, ◌||◌, ◌≢◌, ◌⊎◌, List, [], ◌∷◌, get_or, Some, None, Option, sym, refl, ap, ◌∙◌, inl, inr, ⊎_elim, arith}
use Rattle.std.specs.List.{list_all}
use Rattle.std.proofs.lemmas.Bool.{and_parts, or_cases, or_parts, both_ways, not-true, not-false, false_from_ne_true, lt-ltb}
use Rattle.layout.specs.declared.position.Position.{Position}
use Rattle.layout.proofs.EveryTurn.{every_not}
use Rattle.field.specs.Meaning.{Meaning, occupied_of}
use Rattle.refusals.specs.declared.refusal.Refusal.{Refusal}
use Rattle.refusals.specs.declared.refusal.Refusal.TheVariants as refusal
use Rattle.sheets.specs.declared.sheet.Sheets.{Sheets}
use Rattle.sheets.specs.Reading.{on_path, route_count, route_sheet, has_route, need_of, uses, wanted_by, used_by}
use Rattle.holds.specs.declared.interlocking.Interlocking.{Interlocking}
use Rattle.holds.specs.Positions.{same}
use Rattle.holds.specs.RouteSets.{is_empty}
use Rattle.holds.specs.Holds.{open_to}
use Rattle.holds.specs.States.{stands}
use Rattle.holds.specs.Interlockings.{hold_of, held_by, state_of}
use Rattle.holds.specs.Refusing.{excuses, clear_of, clashes, apart, admits, all_admit, fits_hold, fits, all_fit}
use Rattle.holds.proofs.Admitting.{all_admit_numbered}
use Rattle.acts.specs.Answers.{path_free_at, path_free}
use Rattle.runlaws.specs.Lawful.{Uses, Excused, Lawful}
use Rattle.runlaws.proofs.Lists.{list_all_each, list_all_not}
use Rattle.runlaws.proofs.Granted.{same_true, same_self, none_true_at}
use Rattle.runlaws.proofs.Coherent.{admitted_apart}
use Rattle.runlaws.proofs.Admitted.{excuses_from}

-- the answer to a set by its four tests: the plan has the route, it stands, all standing routes admit it, what it needs fits
abbrev pub answer_by : Bool → Bool → Bool → Bool → Option Refusal
answer_by known up admit fit =
    cond known (cond up (Some refusal.StandsAlready) (cond admit (cond fit None (Some refusal.HeldOtherwise)) (Some refusal.SectionInUse)))
    (Some refusal.NoSuchRoute)

pub no_route_told : (known up admit fit : Bool) → answer_by known up admit fit ≡ Some refusal.NoSuchRoute → known ≡ false
no_route_told false up admit fit h = refl
no_route_told true true admit fit h = cc
no_route_told true false false fit h = cc
no_route_told true false true false h = cc
no_route_told true false true true h = cc

pub stands_told : (known up admit fit : Bool) → answer_by known up admit fit ≡ Some refusal.StandsAlready → (known ≡ true) × (up ≡ true)
stands_told false up admit fit h = cc
stands_told true true admit fit h = (refl, refl)
stands_told true false false fit h = cc
stands_told true false true false h = cc
stands_told true false true true h = cc

pub in_use_told :
    (known up admit fit : Bool) → answer_by known up admit fit ≡ Some refusal.SectionInUse → (known ≡ true) × (up ≡ false) × (admit ≡ false)
in_use_told false up admit fit h = cc
in_use_told true true admit fit h = cc
in_use_told true false false fit h = (refl, refl, refl)
in_use_told true false true false h = cc
in_use_told true false true true h = cc

pub otherwise_told :
    (known up admit fit : Bool) → answer_by known up admit fit ≡ Some refusal.HeldOtherwise
    → (known ≡ true) × (up ≡ false) × (admit ≡ true) × (fit ≡ false)
otherwise_told false up admit fit h = cc
otherwise_told true true admit fit h = cc
otherwise_told true false false fit h = cc
otherwise_told true false true false h = (refl, refl, refl, refl)
otherwise_told true false true true h = cc

-- no set is refused for anything else
abbrev pub OneOfFour : Refusal → Type 0
OneOfFour x = (x ≡ refusal.NoSuchRoute) ⊎ (x ≡ refusal.StandsAlready) ⊎ (x ≡ refusal.SectionInUse) ⊎ (x ≡ refusal.HeldOtherwise)

pub one_of_four : (known up admit fit : Bool) (x : Refusal) → answer_by known up admit fit ≡ Some x → OneOfFour x
one_of_four false up admit fit x h = inl cc
one_of_four true true admit fit x h = inr (inl cc)
one_of_four true false false fit x h = inr (inr (inl cc))
one_of_four true false true false x h = inr (inr (inr cc))
one_of_four true false true true x h = cc

-- a section that the route shares with a standing one, and that neither excuses
pub record Clash (t : Sheets) (i : Interlocking) (r : ℕ) : Type 0 where
  pub other : ℕ
  pub section : ℕ
  pub known : has_route t other ≡ true
  pub stands : stands (state_of i other) ≡ true
  pub wanted : Uses t r section
  pub used : Uses t other section
  pub not_after : Excused t r other section → ⊥
  pub not_before : Excused t other r section → ⊥

pub clash_found : (t : Sheets) → Lawful t → (i : Interlocking) (r : ℕ) → has_route t r ≡ true → all_admit t (route_sheet t r) i ≡ false → Clash t i r
clash_found t law i r route none =
    let sheet = route_sheet t r in
    let found = every_not (λ k. admits sheet i k (route_sheet t k)) (route_count t) 0 (sym (all_admit_numbered t sheet i) ∙ none) in
    let q = found.0 in
    let below = found.2 in
    let other = route_sheet t q in
    let parts = or_parts (not (stands (state_of i q))) (apart sheet other) found.3 in
    let at = list_all_not (clear_of sheet other) (used_by sheet) parts.1 in
    let x = at.0 in
    let one = excuses sheet other x in
    let two = excuses other sheet x in
    let clash = and_parts (uses other x) (not (one || two)) (not-false (clashes sheet other x) at.2) in
    let neither = or_parts one two (not-true (one || two) clash.1) in
    record {
      other = q;
      section = x;
      known = lt-ltb q (route_count t) (omega arith);
      stands = not-false (stands (state_of i q)) parts.0;
      wanted = law.listed r x route at.1;
      used = clash.0;
      not_after = λ e. both_ways one neither.0 (excuses_from t r q x e);
      not_before = λ e. both_ways two neither.1 (excuses_from t q r x e);
    }

pub clash_refuses : (t : Sheets) → Lawful t → (i : Interlocking) (r : ℕ) → has_route t r ≡ true → Clash t i r → all_admit t (route_sheet t r) i ≡ false
clash_refuses t law i r route clash =
    false_from_ne_true (all_admit t (route_sheet t r) i)
    (λ admit.
    ⊎_elim clash.not_after clash.not_before
    (admitted_apart t law i r route admit clash.other clash.section clash.known clash.stands clash.wanted clash.used))

-- an element that the route needs in one position and some route holds in the other
pub record Locked (t : Sheets) (i : Interlocking) (r : ℕ) : Type 0 where
  pub element : ℕ
  pub position : Position
  pub holder : ℕ
  pub needs : need_of (route_sheet t r) element ≡ Some position
  pub held : held_by i holder element ≡ true
  pub other : (hold_of i element).position ≢ position

some_true : (xs : List Bool) → list_all not xs ≡ false → (k : ℕ) × (get_or xs k false ≡ true)
some_true [] h = cc
some_true (true ∷ xs) h = (0, refl)
some_true (false ∷ xs) h = let rest = some_true xs h in (suc rest.0, rest.1)

locked_in : (t : Sheets) (i : Interlocking) (r e : ℕ) (w : Option Position) → need_of (route_sheet t r) e ≡ w → fits_hold (hold_of i e) w ≡ false → Locked t i r
locked_in t i r e None is h = cc
locked_in t i r e (Some p) is h =
    let hold = hold_of i e in
    let parts = or_parts (is_empty hold.routes) (same hold.position p) h in
    let some = some_true hold.routes.members parts.0 in
    record {
      element = e;
      position = p;
      holder = some.0;
      needs = is;
      held = some.1;
      other = λ at. both_ways (same hold.position p) parts.1 (ap (λ x. same x p) at ∙ same_self p);
    }

pub locked_found : (t : Sheets) (i : Interlocking) (r : ℕ) → all_fit (route_sheet t r) i ≡ false → Locked t i r
locked_found t i r none =
    let at = list_all_not (fits (route_sheet t r) i) (wanted_by (route_sheet t r)) none in
    locked_in t i r at.0 (need_of (route_sheet t r) at.0) refl at.2

pub locked_refuses : (t : Sheets) → Lawful t → (i : Interlocking) (r : ℕ) → has_route t r ≡ true → Locked t i r → all_fit (route_sheet t r) i ≡ false
locked_refuses t law i r route lock =
    false_from_ne_true (all_fit (route_sheet t r) i)
    (λ fit.
    let hold = hold_of i lock.element in
    let listed = (law.needed r lock.element lock.position route lock.needs).1 in
    let room : open_to hold lock.position ≡ true =
    ap (fits_hold hold) (sym lock.needs) ∙ list_all_each (fits (route_sheet t r) i) (wanted_by (route_sheet t r)) fit lock.element listed in
    ⊎_elim
    (λ (empty : is_empty hold.routes ≡ true).
    both_ways (held_by i lock.holder lock.element) (none_true_at hold.routes.members lock.holder empty) lock.held)
    (λ (at : same hold.position lock.position ≡ true). lock.other (same_true hold.position lock.position at))
    (or_cases (is_empty hold.routes) (same hold.position lock.position) room))

-- the answer to a clear by its two tests, to a release by its three, and to an event by its one
abbrev pub clear_answer_by : Bool → Bool → Option Refusal
clear_answer_by known up = cond known (cond up None (Some refusal.NotStanding)) (Some refusal.NoSuchRoute)

abbrev pub release_answer_by : Bool → Bool → Bool → Option Refusal
release_answer_by known up free = cond known (cond up (cond free None (Some refusal.PathOccupied)) (Some refusal.NotStanding)) (Some refusal.NoSuchRoute)

pub unknown_clear : (known up : Bool) → clear_answer_by known up ≡ Some refusal.NoSuchRoute → known ≡ false
unknown_clear false up h = refl
unknown_clear true true h = cc
unknown_clear true false h = cc

pub idle_clear : (known up : Bool) → clear_answer_by known up ≡ Some refusal.NotStanding → (known ≡ true) × (up ≡ false)
idle_clear false up h = cc
idle_clear true true h = cc
idle_clear true false h = (refl, refl)

pub one_of_two : (known up : Bool) (x : Refusal) → clear_answer_by known up ≡ Some x → (x ≡ refusal.NoSuchRoute) ⊎ (x ≡ refusal.NotStanding)
one_of_two false up x h = inl cc
one_of_two true true x h = cc
one_of_two true false x h = inr cc

pub unknown_release : (known up free : Bool) → release_answer_by known up free ≡ Some refusal.NoSuchRoute → known ≡ false
unknown_release false up free h = refl
unknown_release true false free h = cc
unknown_release true true true h = cc
unknown_release true true false h = cc

pub idle_release : (known up free : Bool) → release_answer_by known up free ≡ Some refusal.NotStanding → (known ≡ true) × (up ≡ false)
idle_release false up free h = cc
idle_release true false free h = (refl, refl)
idle_release true true true h = cc
idle_release true true false h = cc

pub occupied_release :
    (known up free : Bool) → release_answer_by known up free ≡ Some refusal.PathOccupied → (known ≡ true) × (up ≡ true) × (free ≡ false)
occupied_release false up free h = cc
occupied_release true false free h = cc
occupied_release true true true h = cc
occupied_release true true false h = (refl, refl, refl)

pub one_of_three :
    (known up free : Bool) (x : Refusal) → release_answer_by known up free ≡ Some x
    → (x ≡ refusal.NoSuchRoute) ⊎ (x ≡ refusal.NotStanding) ⊎ (x ≡ refusal.PathOccupied)
one_of_three false up free x h = inl cc
one_of_three true false free x h = inr (inl cc)
one_of_three true true true x h = cc
one_of_three true true false x h = inr (inr cc)

pub event_refused : (is : Bool) (x : Refusal) → cond is None (Some refusal.NotOfThePlan) ≡ Some x → (is ≡ false) × (x ≡ refusal.NotOfThePlan)
event_refused true x h = cc
event_refused false x h = (refl, cc)

-- a section on the path of a sheet that is occupied
pub path_blocked :
    (t : Sheets) (m : Meaning) (r : ℕ) → path_free (route_sheet t r) m ≡ false
    → (x : ℕ) × (on_path (route_sheet t r) x ≡ true) × (occupied_of m x ≡ true)
path_blocked t m r none =
    let sheet = route_sheet t r in
    let at = list_all_not (path_free_at sheet m) (used_by sheet) none in
    let both = and_parts (on_path sheet at.0) (occupied_of m at.0) (not-false (on_path sheet at.0 && occupied_of m at.0) at.2) in
    (at.0, both.0, both.1)
