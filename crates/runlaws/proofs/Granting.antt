-- Which requests a set and a clear grant: those of elements that are held by nobody or as they are requested, and that the route needs not otherwise.
use Rattle.std.proofs.Common.{◌≡◌, ℕ, suc, ◌<◌, Bool, true, false, not, ◌≢◌, ◌⊎◌, List, [], ◌∷◌, get_or, Some, None, fold, Option, sym, refl, ap, ◌∙◌, subst, inl, inr, ⊎_elim, arith}
use Rattle.std.specs.List.{list_all}
use Rattle.std.proofs.lemmas.List.{get_or-set_other}
use Rattle.std.proofs.lemmas.Bool.{cases_eq, cases_Bool, cond-true, or_right, true≢false}
use Rattle.layout.specs.declared.position.Position.{Position}
use Rattle.walks.specs.Exactly.{In}
use Rattle.sheets.specs.declared.sheet.RouteSheet.{RouteSheet}
use Rattle.sheets.specs.declared.sheet.Sheets.{Sheets}
use Rattle.sheets.specs.Reading.{route_sheet, has_route, need_of, request_of, wanted_by}
use Rattle.holds.specs.declared.hold.Hold.{Hold}
use Rattle.holds.specs.declared.interlocking.Interlocking.{Interlocking}
use Rattle.holds.specs.declared.state.RouteState.TheVariants.{Absent, Waiting}
use Rattle.holds.specs.Positions.{same}
use Rattle.holds.specs.RouteSets.{is_empty}
use Rattle.holds.specs.Holds.{free_hold, granted, open_to}
use Rattle.holds.specs.States.{waits_again}
use Rattle.holds.specs.Interlockings.{hold_of, held_by, state_of, with_state}
use Rattle.holds.specs.Granting.{joined_by, joined_if_any, joined_as, need_choice, needs_granted, grantable, request_choice, taken_up, tried_again}
use Rattle.acts.specs.declared.act.Act.{Act}
use Rattle.acts.specs.declared.act.Act.TheVariants as act
use Rattle.acts.specs.Situations.{Situation}
use Rattle.acts.specs.Answers.{answer}
use Rattle.acts.specs.Acts.{stepped}
use Rattle.runlaws.specs.Lawful.{Lawful}
use Rattle.runlaws.proofs.Lists.{set_case}
use Rattle.runlaws.proofs.Granted.{Sized, same_self, none_true_at, grown_request, grown_requests, grown_needs, need_held, shrunk_all}
use Rattle.runlaws.proofs.Coherent.{Sound, set_accepted, fit_each, grown_set, route_counts}
use Rattle.runlaws.proofs.Admitted.{fits_from}
use Rattle.runlaws.proofs.Holding.{all_held_out}

-- an element is held by nobody, or in a position
abbrev pub Room : Interlocking → ℕ → Position → Type 0
Room i e p = ((k : ℕ) → held_by i k e ≡ false) ⊎ ((hold_of i e).position ≡ p)

some_true : (xs : List Bool) → list_all not xs ≡ false → (k : ℕ) × (get_or xs k false ≡ true)
some_true [] none = absurd (true≢false none)
some_true (true ∷ xs) none = (0, refl)
some_true (false ∷ xs) none = let rest = some_true xs none in (suc rest.0, rest.1)

-- nobody holds an element, or somebody does
pub nobody_or_somebody : (i : Interlocking) (e : ℕ) → ((k : ℕ) → held_by i k e ≡ false) ⊎ ((k : ℕ) × (held_by i k e ≡ true))
nobody_or_somebody i e =
    let routes = (hold_of i e).routes in
    ⊎_elim
    (λ (empty : is_empty routes ≡ true). inl (λ k. none_true_at routes.members k empty))
    (λ (some : is_empty routes ≡ false). inr (some_true routes.members some))
    (cases_Bool (is_empty routes))

-- an element stays open to a position while another is joined, or it is joined in that position
open_still :
    (i : Interlocking) (r e : ℕ) (p : Position) (k : ℕ) (w : Option Position) → ((q : Position) → w ≡ Some q → k ≡ e → q ≡ p)
    → open_to (hold_of i e) p ≡ true → open_to (hold_of (joined_if_any i r k w) e) p ≡ true
open_still i r e p k None only room = room
open_still i r e p k (Some q) only room =
    let new = granted (hold_of i k) r q in
    ⊎_elim
    (λ (o : hold_of (joined_by i r k q) e ≡ hold_of i e). ap (λ (x : Hold). open_to x p) o ∙ room)
    (λ (o : (e ≡ k) × (hold_of (joined_by i r k q) e ≡ new)).
    ap (λ (x : Hold). open_to x p) o.1
    ∙ or_right (is_empty new.routes) (same q p) (subst (λ (x : Position). same q x ≡ true) (only q refl (sym o.0)) (same_self q)))
    (set_case i.holds k new free_hold e)

-- another element's hold is as it was
hold_other : (i : Interlocking) (r e k : ℕ) (w : Option Position) → e ≢ k → hold_of (joined_if_any i r k w) e ≡ hold_of i e
hold_other i r e k None ne = refl
hold_other i r e k (Some q) ne = get_or-set_other i.holds k e (granted (hold_of i k) r q) free_hold ne

request_now :
    (i : Interlocking) (r e : ℕ) (w : Option Position) (p : Position) → w ≡ Some p → open_to (hold_of i e) p ≡ true → Sized i → e < 96 → r < 64
    → (held_by (joined_if_any i r e (grantable (hold_of i e) w)) r e ≡ true)
    × ((hold_of (joined_if_any i r e (grantable (hold_of i e) w)) e).position ≡ p)
request_now i r e w p is room sized below route =
    let gives : grantable (hold_of i e) w ≡ Some p
    = ap (grantable (hold_of i e)) is ∙ cond-true (open_to (hold_of i e) p) (Some p) None room in
    need_held i r e (grantable (hold_of i e) w) p gives sized below route

module _ (s : RouteSheet) (r : ℕ) where
  needs_open :
      (xs : List ℕ) (i : Interlocking) (e : ℕ) (p : Position) → ((q : Position) → need_of s e ≡ Some q → q ≡ p)
      → open_to (hold_of i e) p ≡ true → open_to (hold_of (fold (joined_as (need_choice s) r) i xs) e) p ≡ true
  needs_open [] i e p only room = room
  needs_open (x ∷ xs) i e p only room =
      needs_open xs (joined_as (need_choice s) r i x) e p only
      (open_still i r e p x (need_of s x) (λ q is at. only q (ap (need_of s) (sym at) ∙ is)) room)

  -- a request of an element that is open to it is granted
  request_held :
      r < 64 → (xs : List ℕ) (i : Interlocking) → Sized i → (e : ℕ) (p : Position) → e < 96 → In e xs → request_of s e ≡ Some p
      → open_to (hold_of i e) p ≡ true
      → (held_by (fold (joined_as (request_choice s) r) i xs) r e ≡ true)
      × ((hold_of (fold (joined_as (request_choice s) r) i xs) e).position ≡ p)
  request_held route [] i sized e p below member is room = absurd member
  request_held route (x ∷ xs) i sized e p below member is room =
      let j = joined_as (request_choice s) r i x in
      let end = fold (joined_as (request_choice s) r) j xs in
      ⊎_elim
      (λ (at : x ≡ e).
      let here : request_of s x ≡ Some p = ap (request_of s) at ∙ is in
      let free : open_to (hold_of i x) p ≡ true = ap (λ (y : ℕ). open_to (hold_of i y) p) at ∙ room in
      let now : (held_by j r x ≡ true) × ((hold_of j x).position ≡ p)
      = request_now i r x (request_of s x) p here free sized (omega (arith, at)) route in
      let stays = (grown_requests s r xs j).kept r x now.0 in
      subst (λ (y : ℕ). (held_by end r y ≡ true) × ((hold_of end y).position ≡ p)) at (stays.0, stays.1 ∙ now.1))
      (λ (ne : x ≢ e).
      let other : hold_of j e ≡ hold_of i e = hold_other i r e x (request_choice s i x) (λ at. ne (sym at)) in
      request_held route xs j ((grown_request i r x (request_of s x)).sized sized) e p below
      (⊎_elim (λ (at : x ≡ e). absurd (ne at)) (λ (rest : In e xs). rest) member) is
      (ap (λ (h : Hold). open_to h p) other ∙ room))
      (cases_eq x e)

-- a set that is accepted, and a clear, change the position of no element that is held
module _ (t : Sheets) (s : Situation) (r k e : ℕ) (held : held_by s.inner k e ≡ true) where
  pub set_keeps : answer t s (act.Set r) ≡ None → (hold_of (taken_up (route_sheet t r) r s.inner) e).position ≡ (hold_of s.inner e).position
  set_keeps h = ((grown_set t s.inner r (set_accepted t s r h)).kept k e held).1

  pub clear_keeps : (hold_of (tried_again (route_sheet t r) r s.inner) e).position ≡ (hold_of s.inner e).position
  clear_keeps =
      let again = with_state s.inner r (waits_again (state_of s.inner r)) in
      ((grown_requests (route_sheet t r) r (wanted_by (route_sheet t r)) again).kept k e held).1

module _ (t : Sheets) (law : Lawful t) (s : Situation) (sound : Sound t s.inner) (r e : ℕ) (p : Position)
    (known : has_route t r ≡ true) (asked : request_of (route_sheet t r) e ≡ Some p) (room : Room s.inner e p) where
  low : r < 64
  low = omega (arith, law.few, route_counts t r known)

  free : open_to (hold_of s.inner e) p ≡ true
  free = fits_from (hold_of s.inner e) (Some p) (λ q is. subst (Room s.inner e) (some_is is) room)
    where
      some_is : {x y : Position} → ◌≡◌ {A = Option Position} (Some x) (Some y) → x ≡ y
      some_is is = cc

  -- a set that is accepted grants it, if the route needs the element in that position or not at all
  pub set_grants :
      answer t s (act.Set r) ≡ None → ((q : Position) → need_of (route_sheet t r) e ≡ Some q → q ≡ p)
      → (held_by (taken_up (route_sheet t r) r s.inner) r e ≡ true) × ((hold_of (taken_up (route_sheet t r) r s.inner) e).position ≡ p)
  set_grants h only =
      let sheet = route_sheet t r in
      let start = with_state s.inner r Waiting in
      let own = needs_granted sheet r start in
      let listed = law.requested r e p known asked in
      let sizes : Sized start = record { holds = sound.sized.holds; members = sound.sized.members } in
      request_held sheet r low (wanted_by sheet) own ((grown_needs sheet r (wanted_by sheet) start (fit_each t s.inner r (set_accepted t s r h))).sized sizes) e p listed.0 listed.1 asked
      (needs_open sheet r (wanted_by sheet) start e p only free)

  -- and so does a clear
  pub clear_grants :
      (held_by (tried_again (route_sheet t r) r s.inner) r e ≡ true) × ((hold_of (tried_again (route_sheet t r) r s.inner) e).position ≡ p)
  clear_grants =
      let sheet = route_sheet t r in
      let again = with_state s.inner r (waits_again (state_of s.inner r)) in
      let listed = law.requested r e p known asked in
      let sizes : Sized again = record { holds = sound.sized.holds; members = sound.sized.members } in
      request_held sheet r low (wanted_by sheet) again sizes e p listed.0 listed.1 asked free

-- what a route holds after an act that neither sets nor clears it, it held before in that position
module _ (t : Sheets) (s : Situation) (r : ℕ) where
  pub held_before :
      (a : Act) → answer t s a ≡ None → a ≢ act.Set r → a ≢ act.Clear r → (e : ℕ) → held_by (stepped t s.inner a) r e ≡ true
      → (held_by s.inner r e ≡ true) × ((hold_of (stepped t s.inner a) e).position ≡ (hold_of s.inner e).position)
  held_before (act.Set q) h no_set no_clear e held =
      let g = grown_set t s.inner q (set_accepted t s q h) in
      let before : held_by s.inner r e ≡ true = sym (g.others r e (λ at. no_set (ap (λ (x : ℕ). act.Set x) (sym at)))) ∙ held in
      (before, (g.kept r e before).1)
  held_before (act.Clear q) h no_set no_clear e held =
      let again = with_state s.inner q (waits_again (state_of s.inner q)) in
      let g = grown_requests (route_sheet t q) q (wanted_by (route_sheet t q)) again in
      let before : held_by s.inner r e ≡ true = sym (g.others r e (λ at. no_clear (ap (λ (x : ℕ). act.Clear x) (sym at)))) ∙ held in
      (before, (g.kept r e before).1)
  held_before (act.Release q) h no_set no_clear e held =
      let out = with_state s.inner q Absent in (all_held_out out q 96 r e held, (shrunk_all out q 96).positions e)
  held_before (act.Tell v) h no_set no_clear e held = (held, refl)
