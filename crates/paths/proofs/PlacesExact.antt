-- The tests of a way's numbers, place by place, say what they are for.
use Rattle.std.proofs.Common.{◌≡◌, ℕ, suc, ◌+◌, ◌-◌, ◌<◌, ◌≤◌, Bool, true, false, not, eqb, ltb, ◌≢◌, List, [], ◌∷◌, length, take, get_or, sym, refl, ◌∙◌, arith, length-take, get_or-take}
use Rattle.std.proofs.lemmas.Bool.{and_parts, and_from, not-true, not_from_false, both_ways, false_from_ne_true, eq-eqb, ne_eqb, ltb-true, lt-ltb}
use Rattle.std.proofs.lemmas.List.Folds.{list_any_at}
use Rattle.layout.specs.declared.element.Element.{Element}
use Rattle.layout.specs.declared.kind.Kind.{Kind}
use Rattle.layout.specs.declared.kind.Kind.TheVariants as kind
use Rattle.layout.specs.Every.{every}
use Rattle.layout.specs.Kinds.{is_signal}
use Rattle.layout.specs.Ports.{at}
use Rattle.layout.specs.Ways.{place, kind_at}
use Rattle.layout.proofs.EveryList.{every_items, every_item, all_places}
use Rattle.layout.proofs.EveryTurn.{every_each, every_from, every_not}
use Rattle.layout.proofs.KindTests.{signal_test}
use Rattle.paths.specs.Places.{lacks, are_within, is_new, are_new, are_signals_between}
use Rattle.paths.specs.Sound.{Within, Once}

lacks_each : (ns : List ℕ) (x : ℕ) → lacks ns x ≡ true → (j : ℕ) → j < length ns → get_or ns j 0 ≢ x
unfolding lacks
lacks_each ns x t j h e = both_ways _ (not-true _ t) (list_any_at (λ n. eqb n x) ns j 0 h (eq-eqb (get_or ns j 0) x e))

lacks_from : (ns : List ℕ) (x : ℕ) → ((j : ℕ) → j < length ns → get_or ns j 0 ≢ x) → lacks ns x ≡ true
unfolding lacks
lacks_from [] x h = refl
lacks_from (n ∷ ns) x h = rw (ne_eqb n x (h 0 (omega arith))) (lacks_from ns x (λ j l. h (suc j) (omega arith)))

pub within_sound : (es : List Element) (way : List ℕ) → are_within es way ≡ true → Within es way
unfolding are_within
within_sound es way t k h =
    ltb-true (get_or way k 0) (length es)
    (every_each (λ j. ltb (get_or way j 0) (length es)) (length way) 0 (every_item (λ e. ltb e (length es)) way 0 ∙ t) k (omega arith) (omega arith))

pub within_from : (es : List Element) (way : List ℕ) → Within es way → are_within es way ≡ true
unfolding are_within
within_from es way w =
    sym (every_item (λ e. ltb e (length es)) way 0)
    ∙ every_from (λ j. ltb (get_or way j 0) (length es)) (length way) 0 (λ j l m. lt-ltb (get_or way j 0) (length es) (w j (omega arith)))

-- no element of a way stands in another
abbrev pub Apart : List ℕ → List ℕ → Type 0
Apart before way = (j k : ℕ) → j < length before → k < length way → place before j ≢ place way k

abbrev is_new_at : List ℕ → List ℕ → ℕ → Bool
is_new_at before way k = is_new before way k (get_or way k 0)

new_every : (before way : List ℕ) → are_new before way ≡ every (is_new_at before way) (length way) 0
unfolding are_new
new_every before way = all_places (λ (p : ℕ × ℕ). is_new before way p.0 p.1) (is_new_at before way) way 0 (λ k h. refl)

new_at : (before way : List ℕ) → are_new before way ≡ true → (k : ℕ) → k < length way
    → (lacks before (get_or way k 0) ≡ true) × (lacks (take k way) (get_or way k 0) ≡ true)
new_at before way t k h = and_parts _ _ (every_each (is_new_at before way) (length way) 0 (sym (new_every before way) ∙ t) k (omega arith) (omega arith))

pub new_apart : (before way : List ℕ) → are_new before way ≡ true → Apart before way
new_apart before way t j k l h = lacks_each before (get_or way k 0) (new_at before way t k h).0 j l

pub new_once : (before way : List ℕ) → are_new before way ≡ true → Once way
new_once before way t j k l h e =
    lacks_each (take k way) (get_or way k 0) (new_at before way t k h).1 j (omega (arith, length-take k way)) (get_or-take k way j 0 l ∙ e)

pub new_from : (before way : List ℕ) → Apart before way → Once way → are_new before way ≡ true
new_from before way a o =
    new_every before way
    ∙ every_from (is_new_at before way) (length way) 0 (λ k l m.
    and_from _ _ (lacks_from before (get_or way k 0) (λ j h. a j k h (omega arith)))
    (lacks_from (take k way) (get_or way k 0) (λ j h e.
    let low : j < k = omega (arith, length-take k way) in o j k low (omega arith) (sym (get_or-take k way j 0 low) ∙ e))))

-- some element strictly between the first and the last of a way is no signal
abbrev pub Body : List Element → List ℕ → Type 0
Body es way = (k : ℕ) × (0 < k) × (suc k < length way) × (kind_at es way k ≢ kind.Signal)

no_signal : (k : Kind) → is_signal k ≡ false → k ≢ kind.Signal
no_signal k f e = both_ways (is_signal k) f (rw e)

abbrev shows : List Element → List ℕ → ℕ → Bool
shows es way k = is_signal (kind_at es way k)

between_every : (es : List Element) (way : List ℕ) → 0 < length way → every (shows es way) (length way - 1 - 1) 1 ≡ are_signals_between es way
unfolding are_signals_between
between_every es way h = every_items (λ e. is_signal (at es e).kind) way 0 (length way - 1 - 1) 1 (omega arith)

pub body_sound : (es : List Element) (way : List ℕ) → 0 < length way → not (are_signals_between es way) ≡ true → Body es way
body_sound es way h t =
    let r : (j : ℕ) × (1 ≤ j) × (j < 1 + (length way - 1 - 1)) × (shows es way j ≡ false)
    = every_not (shows es way) (length way - 1 - 1) 1 (between_every es way h ∙ not-true _ t) in
    (r.0, r.1, omega (arith, r.2), no_signal (kind_at es way r.0) r.3)

pub body_from : (es : List Element) (way : List ℕ) → Body es way → not (are_signals_between es way) ≡ true
body_from es way b = not_from_false _ (false_from_ne_true _ (λ t.
    let high : suc b.0 < length way = b.2 in
    b.3 (signal_test (kind_at es way b.0)
    (every_each (shows es way) (length way - 1 - 1) 1 (between_every es way (omega arith) ∙ t) b.0 b.1 (omega arith)))))
