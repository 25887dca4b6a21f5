-- The test of a route's overlap passes exactly the allowed ones.
use Rattle.std.proofs.Common.{◌≡◌, ℕ, zero, suc, ◌<◌, Bool, true, false, not, ◌&&◌, ◌||◌, ltb, ◌≢◌, List, ◌∷◌, length, is_some, Some, None, Option, sym, refl, ap, ◌∙◌, subst, inl, inr, arith}
use Rattle.std.proofs.lemmas.Bool.{and_parts, and_from, not-true, not_from_false, both_ways, cases_Bool, ltb-true, lt-ltb}
use Rattle.bounded.specs.declared.bounded.Bounded.{Bounded}
use Rattle.bounded.specs.Lists.{listed}
use Rattle.layout.specs.declared.element.Element.{Element}
use Rattle.layout.specs.declared.kind.Kind.{Kind}
use Rattle.layout.specs.declared.kind.Kind.TheVariants as kind
use Rattle.layout.specs.declared.route.Route.{Route}
use Rattle.layout.specs.declared.route.RouteClass.{RouteClass}
use Rattle.layout.specs.declared.route.RouteClass.TheVariants as class
use Rattle.layout.specs.Kinds.{is_signal, is_point}
use Rattle.layout.specs.Ports.{at}
use Rattle.layout.specs.Sound.{SoundElements}
use Rattle.layout.specs.Ways.{place, kind_at}
use Rattle.layout.proofs.KindTests.{point_test, signal_test}
use Rattle.layout.proofs.Values.{some_of}
use Rattle.paths.specs.Following.{follows}
use Rattle.paths.specs.Places.{are_within, are_new}
use Rattle.paths.specs.Overlaps.{is_overlap, is_beyond, is_train, is_overlap_allowed}
use Rattle.paths.specs.Sound.{Within, last, SoundOverlap, HasSoundPath, AllowedOverlap, no_overlap, zero_overlap, some_overlap}
use Rattle.paths.specs.Exactly.{OverlapsExact}
use Rattle.paths.proofs.StepsExact.{Followed, follows_sound}
use Rattle.paths.proofs.PlacesExact.{within_sound, within_from, new_apart, new_once, new_from}
use Rattle.paths.proofs.PathsExact.{runs_of, forward, followed_from}

no_point : (k : Kind) → not (is_point k) ≡ true → k ≢ kind.Point
no_point k t e = both_ways (is_point k) (not-true _ t) (rw e)

no_point_from : (k : Kind) → k ≢ kind.Point → not (is_point k) ≡ true
no_point_from k n = elim (cases_Bool (is_point k)) [ inl t ↦ absurd (n (point_test k t)) | inr f ↦ not_from_false _ f ]

overlap_sound : (es : List Element) (path overlap : List ℕ) → is_overlap es path overlap ≡ true → SoundOverlap es path overlap
overlap_sound es path overlap e =
    let from : ℕ = place path (last path) in
    let a = and_parts (ltb 0 (length path)) _ e in
    let b = and_parts (ltb 0 (length overlap)) _ a.1 in
    let c = and_parts (is_signal (at es from).kind) _ b.1 in
    let d = and_parts (are_within es overlap) _ c.1 in
    let f = and_parts (are_new path overlap) _ d.1 in
    let g = and_parts (is_some (follows es from 0 overlap)) _ f.1 in
    let h : (p : ℕ) × (follows es from 0 overlap ≡ Some p) = some_of (follows es from 0 overlap) g.0 in
    let w : Followed es from 0 overlap h.0 = follows_sound es from 0 overlap h.0 h.1 in
    let signal : (at es from).kind ≡ kind.Signal = signal_test (at es from).kind c.0 in
    let there : 0 < length overlap = ltb-true 0 (length overlap) b.0 in
    record {
      some_path = ltb-true 0 (length path) a.0;
      some_overlap = there;
      from_signal = signal;
      within = within_sound es overlap d.0;
      apart = new_apart path overlap f.0;
      once = new_once path overlap f.0;
      runs = runs_of es from overlap h.0 w;
      starts_forward = forward es from overlap h.0 w there signal;
      ends = no_point (kind_at es overlap (last overlap)) g.1;
    }

-- the last signal of a path and an overlap in the plan are a way in the plan
all_within : (es : List Element) (from : ℕ) (overlap : List ℕ) → from < length es → Within es overlap
    → (k : ℕ) → k < length (from ∷ overlap) → place (from ∷ overlap) k < length es
all_within es from overlap known within zero h = known
all_within es from overlap known within (suc k) h = within k (omega arith)

overlap_from : (es : List Element) → SoundElements es → (path overlap : List ℕ) → place path (last path) < length es
    → SoundOverlap es path overlap → is_overlap es path overlap ≡ true
overlap_from es sound path overlap known s =
    let from : ℕ = place path (last path) in
    let walked : follows es from 0 overlap ≡ Some (s.runs.enters (length overlap))
    = followed_from es sound from overlap s.runs (all_within es from overlap known s.within) s.from_signal s.starts_forward s.some_overlap in
    let signal : is_signal (at es from).kind ≡ true = ap is_signal s.from_signal in
    let there : is_some (follows es from 0 overlap) ≡ true = ap is_some walked in
    and_from _ _ (lt-ltb 0 (length path) s.some_path)
    (and_from _ _ (lt-ltb 0 (length overlap) s.some_overlap)
    (and_from _ _ signal
    (and_from _ _ (within_from es overlap s.within)
    (and_from _ _ (new_from path overlap s.apart s.once)
    (and_from _ _ there (no_point_from (kind_at es overlap (last overlap)) s.ends))))))

train_test : (c : RouteClass) → is_train c ≡ true → c ≡ class.Train
train_test class.Train t = refl
train_test class.Shunting t = cc

abbrev Allows : List Element → RouteClass → Option (Bounded ℕ 24) → Option (Bounded ℕ 8) → Bool → Bool
Allows es c path None zeroed = not zeroed || is_train c
Allows es c path (Some overlap) zeroed = is_train c && (not zeroed && is_beyond es path overlap)

none_sound : (es : List Element) (r : Route) (zeroed : Bool) → r.overlap ≡ None → r.zero_overlap ≡ zeroed → (not zeroed || is_train r.class) ≡ true → AllowedOverlap es r
none_sound es r false o z t = no_overlap o z
none_sound es r true o z t = zero_overlap (train_test r.class t) o z

some_sound : (es : List Element) (r : Route) (path : Option (Bounded ℕ 24)) (overlap : Bounded ℕ 8) → r.path ≡ path → r.overlap ≡ Some overlap
    → (is_train r.class && (not r.zero_overlap && is_beyond es path overlap)) ≡ true → AllowedOverlap es r
some_sound es r None overlap p o t =
    let a = and_parts (is_train r.class) _ t in let b = and_parts (not r.zero_overlap) _ a.1 in cc
some_sound es r (Some path) overlap p o t =
    let a = and_parts (is_train r.class) _ t in
    let b = and_parts (not r.zero_overlap) _ a.1 in
    some_overlap path overlap (train_test r.class a.0) (not-true _ b.0) p o (overlap_sound es (listed path) (listed overlap) b.1)

allowed_sound : (es : List Element) (r : Route) (o : Option (Bounded ℕ 8)) → r.overlap ≡ o → Allows es r.class r.path o r.zero_overlap ≡ true → AllowedOverlap es r
allowed_sound es r None e t = none_sound es r r.zero_overlap e refl t
allowed_sound es r (Some overlap) e t = some_sound es r r.path overlap refl e t

-- the test at fields that are known
allows_at : (es : List Element) (r : Route) (c : RouteClass) (path : Option (Bounded ℕ 24)) (overlap : Option (Bounded ℕ 8)) (zeroed : Bool)
    → r.class ≡ c → r.path ≡ path → r.overlap ≡ overlap → r.zero_overlap ≡ zeroed → is_overlap_allowed es r ≡ Allows es c path overlap zeroed
allows_at es r c path None zeroed a b d e = rw (d, e, a)
allows_at es r c path (Some overlap) zeroed a b d e = rw (d, e, a, b)

allowed_from : (es : List Element) → SoundElements es → (r : Route) → HasSoundPath es r → AllowedOverlap es r → is_overlap_allowed es r ≡ true
allowed_from es sound r h (no_overlap o z) = allows_at es r r.class r.path None false refl refl o z
allowed_from es sound r h (zero_overlap c o z) = allows_at es r class.Train r.path None true c refl o z
allowed_from es sound r h (some_overlap path overlap c z p o s) =
    let same : h.path ≡ path = cc (h.is, p) in
    let far : last (listed path) < length (listed path) = omega (arith, s.some_path) in
    let within : Within es (listed path) = subst (λ (b : Bounded ℕ 24). Within es (listed b)) same h.sound.within in
    allows_at es r class.Train (Some path) (Some overlap) false c p o z
    ∙ overlap_from es sound (listed path) (listed overlap) (within (last (listed path)) far) s

pub overlaps_exact : OverlapsExact
overlaps_exact es r sound h =
    (λ t. allowed_sound es r r.overlap refl (sym (allows_at es r r.class r.path r.overlap r.zero_overlap refl refl refl refl) ∙ t), allowed_from es sound r h)
