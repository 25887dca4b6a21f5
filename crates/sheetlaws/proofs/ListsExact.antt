-- The short lists of a sheet have exactly the elements and sections that pass their tests, ascending.
use Rattle.std.proofs.Common.{◌≡◌, ℕ, zero, suc, ◌<◌, ◌≤◌, min, Bool, true, false, List, [], ◌∷◌, ◌++◌, length, get_or, take, replicate, sym, refl, ap, ◌∙◌, subst, inl, ⊎_elim, arith}
use lib.ListN.{length-replicate}
use Rattle.std.proofs.lemmas.List.{get_or_past}
use Rattle.std.proofs.lemmas.List.FromFn.{length-map-range_with_len}
use Rattle.std.proofs.lemmas.Bool.{cases_eq, cases_lt, cases_Bool, cond-true, cond-false, both_ways}
use Rattle.bounded.specs.declared.bounded.Bounded.{Bounded}
use Rattle.bounded.specs.Lists.{listed, blanks, pushed}
use Rattle.layout.specs.declared.element.Element.{Element}
use Rattle.layout.specs.declared.route.Route.{Route}
use Rattle.walks.specs.Exactly.{In}
use Rattle.walks.proofs.Found.{in_left, in_right, in_either}
use Rattle.walks.proofs.Ascending.{Rising, rising_none, rising_more, rising_append, rising_pairs}
use Rattle.sheets.specs.declared.sheet.RouteSheet.{RouteSheet}
use Rattle.sheets.specs.Lists.{numbers_where, is_wanted, is_used}
use Rattle.sheets.specs.Sections.{section_use, no_use, sections_of}
use Rattle.sheets.specs.Sheets.{no_sheet, sheet_of}
use Rattle.sheets.specs.Wants.{want_at, no_want, wants_of}
use Rattle.plan.specs.Flanks.{route_of}
use Rattle.sheetlaws.specs.Routes.{Exactly, elements_of}
use Rattle.sheetlaws.specs.Lists.{WantedListed, UsedListed, Ascend, ListsAscend}
use Rattle.sheetlaws.proofs.Reading.{pushed_count, pushed_size, pushed_listed, sheets_in_order}

module _ {N : ℕ} (test : ℕ → Bool) where
  -- the list of the numbers below n that pass has no more than n items, and exactly these, ascending
  pub record Lists (n : ℕ) (b : Bounded ℕ N) : Type 0 where
    pub few : b.count ≤ n
    pub size : length b.places ≡ N
    pub sound : (a : ℕ) → In a (listed b) → (a < n) × (test a ≡ true)
    pub complete : (a : ℕ) → a < n → test a ≡ true → In a (listed b)
    pub order : Rising (λ x y. x < y) (listed b)

  lists_one : (n : ℕ) (b : Bounded ℕ N) → suc n ≤ N → Lists n b → test n ≡ true → Lists (suc n) (pushed b n)
  lists_one n b room l t =
      let low = l.few in
      let below : b.count < N = omega arith in
      let is : listed (pushed b n) ≡ listed b ++ (n ∷ []) = pushed_listed b n below l.size in
      record {
        few = omega (arith, pushed_count b n below);
        size = pushed_size b n below l.size;
        sound = λ a h.
            ⊎_elim
            (λ (i : In a (listed b)). let old = l.sound a i in (let lt = old.0 in omega arith, old.1))
            (λ (i : In a (n ∷ [])). ⊎_elim (λ (e : n ≡ a). (omega arith, subst (λ x. test x ≡ true) e t)) (λ (none : In a []). absurd none) i)
            (in_either a (listed b) (n ∷ []) (subst (In a) is h));
        complete = λ a lt p.
            subst (In a) (sym is)
            (⊎_elim (λ (e : a ≡ n). in_right a (listed b) (n ∷ []) (inl (sym e))) (λ ne. in_left a (listed b) (n ∷ []) (l.complete a (omega arith) p)) (cases_eq a n));
        order =
            subst (Rising (λ x y. x < y)) (sym is)
            (rising_append (λ x y. x < y) (n ∷ []) l.order (rising_more (λ y i. absurd i) rising_none)
            (λ x y i j. ⊎_elim (λ (e : n ≡ y). let lt = (l.sound x i).0 in omega arith) (λ (no : In y []). absurd no) j));
      }

  lists_same : (n : ℕ) (b : Bounded ℕ N) → Lists n b → test n ≡ false → Lists (suc n) b
  lists_same n b l f = record {
    few = let low = l.few in omega arith;
    size = l.size;
    sound = λ a h. let old = l.sound a h in (let lt = old.0 in omega arith, old.1);
    complete = λ a lt p.
        ⊎_elim (λ (e : a ≡ n). absurd (both_ways (test n) f (subst (λ x. test x ≡ true) e p))) (λ ne. l.complete a (omega arith) p) (cases_eq a n);
    order = l.order;
  }

  pub lists_all : (n : ℕ) → n ≤ N → Lists n (numbers_where test n)
  unfolding numbers_where blanks
  lists_all zero room = record {
    few = omega arith;
    size = length-replicate N 0;
    sound = λ a h. absurd (let no : min 0 N ≡ 0 = omega arith in subst (λ (k : ℕ). In a (take k (replicate N 0))) no h);
    complete = λ a lt p. absurd (omega arith);
    order = let no : 0 ≡ min 0 N = omega arith in subst (λ (k : ℕ). Rising (λ x y. x < y) (take k (replicate N 0))) no rising_none;
  }
  lists_all (suc n) room =
      let b : Bounded ℕ N = numbers_where test n in
      let l = lists_all n (omega arith) in
      ⊎_elim
      (λ (t : test n ≡ true). subst (Lists (suc n)) (sym (cond-true (test n) (pushed b n) b t)) (lists_one n b room l t))
      (λ (f : test n ≡ false). subst (Lists (suc n)) (sym (cond-false (test n) (pushed b n) b f)) (lists_same n b l f))
      (cases_Bool (test n))

-- a table whose blank does not pass has nothing that passes past its end
past_fails : {X : Type 0} (test : X → Bool) (table : List X) (blank : X) (size k : ℕ) → length table ≡ size → test blank ≡ false → test (get_or table k blank) ≡ true → k < size
past_fails test table blank size k long none t =
    ⊎_elim (λ (l : k < size). l) (λ (past : size ≤ k). absurd (both_ways (test blank) none (sym (ap test (get_or_past table k blank (omega arith))) ∙ t))) (cases_lt k size)

module _ {X : Type 0} (test : X → Bool) (table : List X) (blank : X) (size : ℕ) (long : length table ≡ size) (none : test blank ≡ false) where
  pub listed_exactly : (k : ℕ)
      → Exactly (In k (listed (numbers_where {N = size} (λ (n : ℕ). test (get_or table n blank)) size))) (test (get_or table k blank) ≡ true)
      × (test (get_or table k blank) ≡ true → k < size)
  listed_exactly k =
      let l = lists_all {N = size} (λ (n : ℕ). test (get_or table n blank)) size (omega arith) in
      let low : test (get_or table k blank) ≡ true → k < size = past_fails test table blank size k long none in
      (((λ h. (l.sound k h).1), (λ t. l.complete k (low t) t)), low)

  pub listed_ascend : Ascend (listed (numbers_where {N = size} (λ (n : ℕ). test (get_or table n blank)) size))
  listed_ascend = rising_pairs (λ x y. x < y) (lists_all {N = size} (λ (n : ℕ). test (get_or table n blank)) size (omega arith)).order

pub wanted_exact : WantedListed
unfolding sheet_of wants_of
wanted_exact d p i h e =
    let es : List Element = elements_of d in
    let r : Route = route_of d i in
    subst
    (λ (s : RouteSheet). Exactly (In e (listed s.wanted)) (is_wanted (get_or s.wants e no_want) ≡ true) × (is_wanted (get_or s.wants e no_want) ≡ true → e < 96))
    (sym ((sheets_in_order d p).1 i no_sheet h))
    (listed_exactly is_wanted (wants_of es r) no_want 96 (length-map-range_with_len (want_at es r) 0 96) refl e)

pub used_exact : UsedListed
unfolding sheet_of sections_of
used_exact d p i h s =
    let es : List Element = elements_of d in
    let r : Route = route_of d i in
    subst
    (λ (a : RouteSheet). Exactly (In s (listed a.used)) (is_used (get_or a.sections s no_use) ≡ true) × (is_used (get_or a.sections s no_use) ≡ true → s < 64))
    (sym ((sheets_in_order d p).1 i no_sheet h))
    (listed_exactly is_used (sections_of es r) no_use 64 (length-map-range_with_len (section_use es r) 0 64) refl s)

pub lists_ascend : ListsAscend
unfolding sheet_of wants_of sections_of
lists_ascend d p i h =
    let es : List Element = elements_of d in
    let r : Route = route_of d i in
    subst (λ (a : RouteSheet). Ascend (listed a.wanted) × Ascend (listed a.used)) (sym ((sheets_in_order d p).1 i no_sheet h)) (
      listed_ascend is_wanted (wants_of es r) no_want 96 (length-map-range_with_len (want_at es r) 0 96) refl,
      listed_ascend is_used (sections_of es r) no_use 64 (length-map-range_with_len (section_use es r) 0 64) refl,
    )
