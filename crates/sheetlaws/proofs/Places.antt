-- The test for a section over a way passes exactly if an element at some place of the way lies in it.
use Rattle.std.proofs.Common.{◌≡◌, ℕ, ◌<◌, true, List, length, Some}
use Rattle.std.proofs.lemmas.List.Folds.{list_any_at}
use Rattle.layout.specs.declared.element.Element.{Element}
use Rattle.layout.specs.Drawings.{no_element}
use Rattle.layout.specs.Ports.{at}
use Rattle.layout.specs.Ways.{place}
use Rattle.plan.proofs.OneWay.{some_place}
use Rattle.sheets.proofs.SomeNumber.{number_is, is_number}
use Rattle.sheets.specs.Sections.{lies_in, is_on_way, is_known}

module _ (es : List Element) (way : List ℕ) (s : ℕ) where
  pub on_way_sound : is_on_way es way s ≡ true → (k : ℕ) × (k < length way) × ((at es (place way k)).section ≡ Some s)
  unfolding is_on_way
  on_way_sound t =
      let x = some_place (λ (e : ℕ). lies_in (at es e) s) way 0 t in
      (x.0, x.1, number_is (at es (place way x.0)).section s x.2)

  pub on_way_from : (k : ℕ) → k < length way → (at es (place way k)).section ≡ Some s → is_on_way es way s ≡ true
  unfolding is_on_way
  on_way_from k h e = list_any_at (λ (e : ℕ). lies_in (at es e) s) way k 0 h (is_number (at es (place way k)).section s e)

module _ (es : List Element) (s : ℕ) where
  pub known_sound : is_known es s ≡ true → (e : ℕ) × (e < length es) × ((at es e).section ≡ Some s)
  unfolding is_known
  known_sound t =
      let x = some_place (λ (e : Element). lies_in e s) es no_element t in
      (x.0, x.1, number_is (at es x.0).section s x.2)

  pub known_from : (e : ℕ) → e < length es → (at es e).section ≡ Some s → is_known es s ≡ true
  unfolding is_known
  known_from e h i = list_any_at (λ (x : Element). lies_in x s) es e no_element h (is_number (at es e).section s i)
