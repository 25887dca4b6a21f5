-- `find_map` over items in a row gives the first of their answers that is there.
use Rattle.std.proofs.Common.{◌≡◌, ℕ, suc, ◌+◌, ◌<◌, true, List, [], ◌∷◌, map, IfSome, MatchOption, Some, None, Option, refl, sym, ap, ◌∙◌, subst}
use denote.Param.Members.{Mut, Called}
use Rattle.std.proofs.lemmas.Iterator.{YieldsList, items_from_drains}
use Rattle.std.specs.Iterator.{Yields, AlwaysYields, FindsMapped}
use Rattle.std.specs.Iterator.Runs.{Run, SomeRun, YieldsRun, AllItemsGive, IsFirstToGive}
use Rattle.std.specs.List.{FoldsTo, fold, slice_get}
use Rattle.std.specs.Option.{option_or}

-- the first of some answers that is there, where c came before them
kept : {B C : Type 0} (answer : B → Option C) (c : C) (ys : List B) → fold option_or (Some c) (map answer ys) ≡ Some c
kept answer c [] = refl
kept answer c (y ∷ ys) = kept answer c ys

module _ {S A B C F : Type 0} (steps : S → Option A → S → Type 0) (v : A → B) (g : Mut F (A × Unit {0}) (Option C)) (answer : B → Option C) (f : F)
    (answers : (x : A) (r : Option C) (q : F) → Called g f (x, tt) r q → (q ≡ f) × (r ≡ answer (v x))) where
  found : (c : C) (xs : List A) (ys : List B) (s t u : S) (j : F) (o : Option A) → AlwaysYields steps v s ys → Yields steps s xs t → steps t o u
      → FoldsTo (λ p x q. Called g p (x, tt) None q) f xs j → MatchOption o (Some c ≡ None) (λ x. (q : F) × Called g j (x, tt) (Some c) q)
      → Some c ≡ fold option_or None (map answer ys)
  found c [] ys s t u j None always came ends none stop = cc
  found c [] [] s t u j (Some x) always came ends none stop = absurd (always x u (subst (λ (z : S). steps z (Some x) u) (sym came) ends))
  found c [] (y ∷ ys) s t u j (Some x) always came ends none stop =
      let here = always.1 x u (subst (λ (z : S). steps z (Some x) u) (sym came) ends) in
      let told = answers x (Some c) stop.0 (subst (λ (z : F). Called g z (x, tt) (Some c) stop.0) (sym none) stop.1) in
      sym (kept answer c ys) ∙ ap (λ (o : Option C). fold option_or o (map answer ys)) (told.1 ∙ ap answer here.0)
  found c (x ∷ xs) [] s t u j o always came ends none stop = absurd (always x came.0 came.1)
  found c (x ∷ xs) (y ∷ ys) s t u j o always came ends none stop =
      let here = always.1 x came.0 came.1 in
      let told = answers x None none.0 none.1 in
      found c xs ys came.0 t u j o here.1 came.2 ends (subst (λ (z : F). FoldsTo (λ p w q. Called g p (w, tt) None q) z xs j) told.0 none.2) stop
      ∙ ap (λ (o : Option C). fold option_or o (map answer ys)) (told.1 ∙ ap answer here.0)

  none_found : (xs : List A) → ((k : ℕ) → IfSome (slice_get xs k) (λ x. Called g f (x, tt) None f)) → None ≡ fold option_or None (map answer (map v xs))
  none_found [] none = refl
  none_found (x ∷ xs) none =
      none_found xs (λ k. none (suc k)) ∙ ap (λ (o : Option C). fold option_or o (map answer (map v xs))) (answers x None f (none 0)).1

  none_from : (s : S) (ys : List B) (p : Run steps) → p.from ≡ s → p.whole ≡ true → AllItemsGive p g f None → YieldsList steps v s ys
      → None ≡ fold option_or None (map answer ys)
  unfolding YieldsRun
  none_from s ys p from whole all yields =
      let gave = subst (λ (z : S). YieldsRun steps z p.items p.whole p.at) from p.gave in
      let items : map v p.items ≡ ys = items_from_drains p.items (gave.0.0, gave.0.1, λ _. gave.0.2 whole) yields in
      none_found p.items (λ k. subst (λ (o : Option A). IfSome o (λ x. Called g f (x, tt) None f)) (gave.1 k) (all (λ x r q called. (answers x.0 r q called).0) k))
      ∙ ap (λ (zs : List B). fold option_or None (map answer zs)) items

  pub first_from_yields_List : (s u : S) (r : Option C) (ys : List B) → FindsMapped steps g s f r u
      → SomeRun steps s (λ p. MatchOption r ((p.whole ≡ true) × AllItemsGive p g f None) (λ y. (i : ℕ) × (i < p.len) × (p.len ≡ i + 1) × IsFirstToGive p g f (Some y) None i))
      → YieldsList steps v s ys → r ≡ fold option_or None (map answer ys)
  first_from_yields_List s u None ys ran runs yields = none_from s ys runs.0 runs.1 runs.2.0 runs.2.1 yields
  first_from_yields_List s u (Some c) ys ran runs yields = found c ran.0 ys s ran.3.0 u ran.2 ran.1 yields.runs ran.3.1 ran.3.2 ran.4 ran.5
