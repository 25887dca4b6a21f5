-- What a set may be refused for, that a refusal changes nothing, and that one signal starts one standing route.
use Rattle.std.proofs.Common.{◌≡◌, ℕ, suc, ◌<◌, Bool, true, false, cond, not, ◌||◌, ltb, nat_eq, ◌⊎◌, List, [], ◌∷◌, get_or, Some, None, Option, sym, refl, ap, ◌∙◌, inl, inr, ⊎_elim, arith}
use Rattle.std.specs.List.{list_all}
use Rattle.std.specs.Option.{option_eq}
use Rattle.std.proofs.lemmas.Bool.{cases_Bool, and_parts, and_from, or_cases, or_left, or_right, both_ways, true≢false, not-true, not_from_false, lt-ltb, cond-true, cond-false}
use Rattle.layout.specs.declared.position.Position.{Position}
use Rattle.layout.proofs.EveryTurn.{every_each, every_from}
use Rattle.field.specs.Meaning.{Meaning}
use Rattle.refusals.specs.declared.refusal.Refusal.{Refusal}
use Rattle.refusals.specs.declared.refusal.Refusal.TheVariants as refusal
use Rattle.sheets.specs.declared.sheet.RouteSheet.{RouteSheet}
use Rattle.sheets.specs.declared.sheet.Sheets.{Sheets}
use Rattle.sheets.specs.declared.sheet.Showing.TheVariants as showing
use Rattle.sheets.specs.Reading.{route_count, route_sheet, has_route, need_of, on_path, uses, wanted_by, used_by}
use Rattle.holds.specs.declared.hold.Hold.{Hold}
use Rattle.holds.specs.declared.interlocking.Interlocking.{Interlocking}
use Rattle.holds.specs.Positions.{same}
use Rattle.holds.specs.RouteSets.{contains, is_empty}
use Rattle.holds.specs.Holds.{open_to}
use Rattle.holds.specs.States.{stands}
use Rattle.holds.specs.Interlockings.{hold_of, state_of}
use Rattle.holds.proofs.Admitting.{all_admit_numbered}
use Rattle.holds.specs.Refusing.{excuses, clashes, clear_of, apart, admits, all_admit, fits_hold, fits, all_fit, set_refusal}
use Rattle.acts.specs.declared.act.Act.TheVariants as act
use Rattle.acts.specs.Situations.{situation}
use Rattle.acts.specs.Answers.{answer}
use Rattle.acts.specs.Acts.{after, unless, step_orders, orders_unless}
use Rattle.runlaws.specs.Lawful.{Uses, Excused, Lawful}
use Rattle.runlaws.specs.Beside.{Agree, Alike, NoWantRefuses, SetFree, SetExactly, AdmitsOverLocked, RefusedChangesNothing, OneStandingStart}
use Rattle.sheets.proofs.SomeNumber.{is_number}
use Rattle.runlaws.proofs.Lists.{list_all_each, list_all_from}
use Rattle.runlaws.proofs.Granted.{same_self, same_true, none_true_at}
use Rattle.runlaws.proofs.Coherent.{set_accepted, new_apart}
use Rattle.runlaws.proofs.Runs.{starts_one, run_coherent}

pub excuses_from : (t : Sheets) (a b x : ℕ) → Excused t a b x → excuses (route_sheet t a) (route_sheet t b) x ≡ true
excuses_from t a b x h =
    and_from (option_eq nat_eq (route_sheet t a).last_signal (Some (route_sheet t b).first)) (not (on_path (route_sheet t a) x))
    (is_number (route_sheet t a).last_signal (route_sheet t b).first h.0)
    (not_from_false (on_path (route_sheet t a) x) h.1)

clear_from : (t : Sheets) (a b x : ℕ) → (Uses t b x → Excused t a b x ⊎ Excused t b a x) → clear_of (route_sheet t a) (route_sheet t b) x ≡ true
clear_from t a b x h =
    let clash = clashes (route_sheet t a) (route_sheet t b) x in
    let one = excuses (route_sheet t a) (route_sheet t b) x in
    let two = excuses (route_sheet t b) (route_sheet t a) x in
    ⊎_elim
    (λ (c : clash ≡ true).
    let p = and_parts (uses (route_sheet t b) x) (not (one || two)) c in
    absurd (both_ways (one || two) (not-true (one || two) p.1)
    (⊎_elim
    (λ (e : Excused t a b x). or_left one two (excuses_from t a b x e))
    (λ (e : Excused t b a x). or_right one two (excuses_from t b a x e))
    (h p.0))))
    (λ (f : clash ≡ false). not_from_false clash f)
    (cases_Bool clash)

none_true_from : (xs : List Bool) → ((k : ℕ) → get_or xs k false ≡ false) → list_all not xs ≡ true
none_true_from [] h = refl
none_true_from (true ∷ xs) h = absurd (true≢false (h 0))
none_true_from (false ∷ xs) h = none_true_from xs (λ k. h (suc k))

pub fits_from : (h : Hold) (w : Option Position) → ((p : Position) → w ≡ Some p → ((q : ℕ) → contains h.routes q ≡ false) ⊎ (h.position ≡ p)) → fits_hold h w ≡ true
fits_from h None f = refl
fits_from h (Some p) f =
    ⊎_elim
    (λ (none : (q : ℕ) → contains h.routes q ≡ false). or_left (is_empty h.routes) (same h.position p) (none_true_from h.routes.members none))
    (λ (at : h.position ≡ p). or_right (is_empty h.routes) (same h.position p) (ap (λ x. same x p) at ∙ same_self p))
    (f p refl)

free_accepted : (t : Sheets) → Lawful t → (i : Interlocking) (m : Meaning) (r : ℕ) → SetFree t i r → answer t (situation i m) (act.Set r) ≡ None
free_accepted t law i m r free =
    let sheet = route_sheet t r in
    let admit : all_admit t sheet i ≡ true =
    all_admit_numbered t sheet i ∙ every_from (λ q. admits sheet i q (route_sheet t q)) (route_count t) 0
    (λ q _ below.
    let up = stands (state_of i q) in
    ⊎_elim
    (λ (st : up ≡ true).
    or_right (not up) (apart sheet (route_sheet t q))
    (list_all_from (clear_of sheet (route_sheet t q)) (used_by sheet)
    (λ x h. clear_from t r q x (free.sections q x (lt-ltb q (route_count t) (omega (arith, below))) st (law.listed r x free.route h)))))
    (λ (st : up ≡ false). or_left (not up) (apart sheet (route_sheet t q)) (not_from_false up st))
    (cases_Bool up)) in
    let fit : all_fit sheet i ≡ true = list_all_from (fits sheet i) (wanted_by sheet) (λ e _. fits_from (hold_of i e) (need_of sheet e) (free.holds e)) in
    let sections = cond (all_fit sheet i) None (Some refusal.HeldOtherwise) in
    cond-true (has_route t r) (set_refusal t sheet r i) (Some refusal.NoSuchRoute) free.route ∙
    (cond-false (stands (state_of i r)) (Some refusal.StandsAlready) (cond (all_admit t sheet i) sections (Some refusal.SectionInUse)) free.new ∙
    (cond-true (all_admit t sheet i) sections (Some refusal.SectionInUse) admit ∙ cond-true (all_fit sheet i) None (Some refusal.HeldOtherwise) fit))

accepted_free : (t : Sheets) → Lawful t → (i : Interlocking) (m : Meaning) (r : ℕ) → answer t (situation i m) (act.Set r) ≡ None → SetFree t i r
accepted_free t law i m r h =
    let ok = set_accepted t (situation i m) r h in
    record {
      route = ok.route;
      new = ok.new;
      sections = new_apart t i r ok law;
      holds = λ e p need.
          let hold = hold_of i e in
          let room : open_to hold p ≡ true =
          ap (fits_hold hold) (sym need) ∙ list_all_each (fits (route_sheet t r) i) (wanted_by (route_sheet t r)) ok.fit e (law.needed r e p ok.route need).1 in
          ⊎_elim
          (λ (empty : is_empty hold.routes ≡ true). inl (λ q. none_true_at hold.routes.members q empty))
          (λ (y : same hold.position p ≡ true). inr (same_true hold.position p y))
          (or_cases (is_empty hold.routes) (same hold.position p) room);
    }

pub set_exactly : SetExactly
set_exactly t law i m r = (accepted_free t law i m r, free_accepted t law i m r)

pub admits_over_locked : AdmitsOverLocked
admits_over_locked t law i m r route new sections holds =
    free_accepted t law i m r (record { route = route; new = new; sections = sections; holds = holds })

-- a sheet with nothing but what clashes look at
abbrev strip : RouteSheet → RouteSheet
strip a =
    record {
      showing = showing.Shunting;
      first = a.first;
      last_signal = a.last_signal;
      end_lamp = None;
      wants = [];
      wanted = record { count = 0; places = [] };
      sections = a.sections;
      used = a.used;
    }

strip_same : (a b : RouteSheet) → Agree a b → strip a ≡ strip b
strip_same a b h = λ k.
    record {
      showing = showing.Shunting;
      first = h.first k;
      last_signal = h.last k;
      end_lamp = None;
      wants = [];
      wanted = record { count = 0; places = [] };
      sections = h.sections k;
      used = h.used k;
    }

apart_same : (a b c d : RouteSheet) → Agree a c → Agree b d → apart a b ≡ apart c d
apart_same a b c d h k = ap (λ x. apart x (strip b)) (strip_same a c h) ∙ ap (λ x. apart (strip c) x) (strip_same b d k)

agree_back : (a b : RouteSheet) → Agree a b → Agree b a
agree_back a b h = record { first = sym h.first; last = sym h.last; needs = λ e. sym (h.needs e); sections = sym h.sections; used = sym h.used }

route_over : (t u : Sheets) → Alike t u → (r : ℕ) → has_route t r ≡ has_route u r
route_over t u h r = ap (ltb r) h.count

alike_back : (t u : Sheets) → Alike t u → Alike u t
alike_back t u h =
    record {
      count = sym h.count;
      routes = λ r route. agree_back (route_sheet t r) (route_sheet u r) (h.routes r (route_over t u h r ∙ route));
    }

module _ (t u : Sheets) (law : Lawful t) (h : Alike t u) (i : Interlocking) (r : ℕ) (route : has_route t r ≡ true) where
  admit_over : all_admit t (route_sheet t r) i ≡ true → all_admit u (route_sheet u r) i ≡ true
  admit_over e =
      all_admit_numbered u (route_sheet u r) i ∙ every_from (λ q. admits (route_sheet u r) i q (route_sheet u q)) (route_count u) 0
      (λ q _ below.
      let same = h.count in
      let up = stands (state_of i q) in
      let within : q < route_count t = omega (arith, below, same) in
      sym (ap (λ b. not up || b) (apart_same (route_sheet t r) (route_sheet t q) (route_sheet u r) (route_sheet u q) (h.routes r route) (h.routes q (lt-ltb q (route_count t) within)))) ∙
      every_each (λ q. admits (route_sheet t r) i q (route_sheet t q)) (route_count t) 0 (sym (all_admit_numbered t (route_sheet t r) i) ∙ e) q (omega arith) (omega arith))

  fit_over : all_fit (route_sheet t r) i ≡ true → all_fit (route_sheet u r) i ≡ true
  fit_over e = list_all_from (fits (route_sheet u r) i) (wanted_by (route_sheet u r)) (λ k _. go k (need_of (route_sheet u r) k) refl)
    where
      go : (k : ℕ) (w : Option Position) → need_of (route_sheet u r) k ≡ w → fits (route_sheet u r) i k ≡ true
      go k None is = ap (fits_hold (hold_of i k)) is
      go k (Some p) is =
          sym (ap (fits_hold (hold_of i k)) ((h.routes r route).needs k)) ∙
          list_all_each (fits (route_sheet t r) i) (wanted_by (route_sheet t r)) e k (law.needed r k p route ((h.routes r route).needs k ∙ is)).1

pub same_truth : (a b : Bool) → (a ≡ true → b ≡ true) → (b ≡ true → a ≡ true) → a ≡ b
same_truth true b to from = sym (to refl)
same_truth false true to from = from refl
same_truth false false to from = refl

abbrev decided : Bool → Bool → Bool → Option Refusal
decided up admit fit = cond up (Some refusal.StandsAlready) (cond admit (cond fit None (Some refusal.HeldOtherwise)) (Some refusal.SectionInUse))

pub no_want_refuses : NoWantRefuses
no_want_refuses t u lt lu h i m n r =
    let st = route_sheet t r in
    let su = route_sheet u r in
    let same : has_route t r ≡ has_route u r = route_over t u h r in
    ⊎_elim
    (λ (route : has_route t r ≡ true).
    let there : has_route u r ≡ true = sym same ∙ route in
    let back = alike_back t u h in
    let admit : all_admit t st i ≡ all_admit u su i = same_truth (all_admit t st i) (all_admit u su i) (admit_over t u lt h i r route) (admit_over u t lu back i r there) in
    let fit : all_fit st i ≡ all_fit su i = same_truth (all_fit st i) (all_fit su i) (fit_over t u lt h i r route) (fit_over u t lu back i r there) in
    λ k. cond (same k) (decided (stands (state_of i r)) (admit k) (fit k)) (Some refusal.NoSuchRoute))
    (λ (none : has_route t r ≡ false).
    cond-false (has_route t r) (set_refusal t st r i) (Some refusal.NoSuchRoute) none ∙
    sym (cond-false (has_route u r) (set_refusal u su r i) (Some refusal.NoSuchRoute) (sym same ∙ none)))
    (cases_Bool (has_route t r))

pub refused_changes_nothing : RefusedChangesNothing
refused_changes_nothing t s a x h = (ap (λ o. unless o t s (after t s a)) h, ap (λ o. orders_unless o (step_orders t s a)) h)

pub one_standing_start : OneStandingStart
one_standing_start t law m acts n = starts_one t law _ (run_coherent t law m acts n)
