-- The test of a route's path passes exactly the sound paths.
use Rattle.std.proofs.Common.{◌≡◌, ℕ, zero, suc, ◌-◌, ◌<◌, true, false, not, ◌&&◌, ltb, ◌⊎◌, List, [], ◌∷◌, length, get_or, Some, None, Option, sym, refl, ap, ◌∙◌, inl, inr, arith}
use Rattle.std.proofs.lemmas.Bool.{and_parts, and_from, eqb-true, eq-eqb, ltb-true, lt-ltb, cases_eq, cases_lt}
use Rattle.std.specs.Option.{option_map_or}
use Rattle.bounded.specs.declared.bounded.Bounded.{Bounded}
use Rattle.bounded.specs.Lists.{listed}
use Rattle.layout.specs.declared.element.Element.{Element}
use Rattle.layout.specs.declared.element.Join.{Join}
use Rattle.layout.specs.declared.kind.Kind.{Kind}
use Rattle.layout.specs.declared.kind.Kind.TheVariants as kind
use Rattle.layout.specs.declared.kind.Sort.{Sort}
use Rattle.layout.specs.declared.kind.Sort.TheVariants as sort
use Rattle.layout.specs.declared.route.Route.{Route}
use Rattle.layout.specs.declared.route.RouteClass.{RouteClass}
use Rattle.layout.specs.declared.route.RouteClass.TheVariants as class
use Rattle.layout.specs.Kinds.{ports, is_signal}
use Rattle.layout.specs.Ports.{at, joined}
use Rattle.layout.specs.Sound.{SoundElements}
use Rattle.layout.specs.Ways.{place, port, kind_at, Runs}
use Rattle.layout.proofs.KindTests.{signal_test}
use Rattle.paths.specs.Following.{turns, follows}
use Rattle.paths.specs.Places.{are_within, are_new, are_signals_between}
use Rattle.paths.specs.Paths.{may_start, is_start, may_end, is_end, is_path, has_path}
use Rattle.paths.specs.Sound.{Starts, train_from_train, train_from_entry, shunting_from_shunting, shunting_from_train, last, SoundPath, HasSoundPath}
use Rattle.paths.specs.Exactly.{PathsExact}
use Rattle.paths.proofs.StepsExact.{turns_sound, turns_from, Followed, follows_sound, follows_from}
use Rattle.paths.proofs.PlacesExact.{within_sound, within_from, new_once, new_from, body_sound, body_from}

-- a port that is joined is one that the element's kind has
pub joined_port : (es : List Element) → SoundElements es → (e p : ℕ) (j : Join) → e < length es → joined es e p ≡ Some j → p < ports (at es e).kind
joined_port es sound e p j h o = elim (cases_lt p (ports (at es e).kind)) [
  | inl l ↦ l
  | inr g ↦ let none = (sound.fields e h).no_other p g in cc
]

-- the way that was followed runs, and leaves a signal entered at its rear by its front
abbrev pub runs_of : (es : List Element) (from : ℕ) (rest : List ℕ) (end : ℕ) → Followed es from 0 rest end → Runs es (from ∷ rest)
runs_of es from rest end f = record {
  enters = f.enters;
  leaves = f.leaves;
  joins = λ k h. f.joins k (omega arith);
  turns = λ k low h. (turns_sound (at es (place (from ∷ rest) k)).kind (f.enters k) (f.leaves k) (f.turned k (omega arith))).1;
}

pub forward : (es : List Element) (from : ℕ) (rest : List ℕ) (end : ℕ) (f : Followed es from 0 rest end) → 0 < length rest → (at es from).kind ≡ kind.Signal
    → f.leaves 0 ≡ 1
forward es from rest end f h s =
    let t = turns_sound (at es from).kind (f.enters 0) (f.leaves 0) (f.turned 0 h) in
    let two : ports (at es from).kind ≡ 2 = ap ports s in
    let low : f.leaves 0 < ports (at es from).kind = t.0 in
    let first : f.enters 0 ≡ 0 = f.first in
    elim (cases_eq (f.leaves 0) (f.enters 0)) [ inl e ↦ absurd (t.1.0 e) | inr n ↦ omega arith ]

-- a row of ports with 0 in the first place
abbrev at_first : (ℕ → ℕ) → ℕ → ℕ
at_first f zero = 0
at_first f (suc k) = f (suc k)

-- a way that runs can be followed, from a signal that it leaves by its front
pub followed_from : (es : List Element) → SoundElements es → (from : ℕ) (rest : List ℕ) (r : Runs es (from ∷ rest))
    → ((k : ℕ) → k < length (from ∷ rest) → place (from ∷ rest) k < length es) → (at es from).kind ≡ kind.Signal → r.leaves 0 ≡ 1 → 0 < length rest
    → follows es from 0 rest ≡ Some (r.enters (length rest))
followed_from es sound from [] r within s out some = absurd (omega arith)
followed_from es sound from (next ∷ more) r within s out some =
    follows_from es sound.joins from 0 (next ∷ more) (at_first r.enters) r.leaves (λ k h. within k (omega arith)) refl
    (λ k h. r.joins k (omega arith)) turned
  where
    turned : (k : ℕ) → k < suc (length more) → turns (at es (place (from ∷ next ∷ more) k)).kind (at_first r.enters k) (r.leaves k) ≡ true
    turned zero h = rw (s, out)
    turned (suc k) h =
        turns_from (at es (place (from ∷ next ∷ more) (suc k))).kind (r.enters (suc k)) (r.leaves (suc k))
        (joined_port es sound (place (from ∷ next ∷ more) (suc k)) (r.leaves (suc k)) (port (place (from ∷ next ∷ more) (suc (suc k))) (r.enters (suc (suc k))))
        (within (suc k) (omega arith)) (r.joins (suc k) (omega arith))) (r.turns (suc k) (omega arith) (omega arith))

start_sound : (c : RouteClass) (s : Option Sort) → may_start c s ≡ true → (t : Sort) × (s ≡ Some t) × Starts c t
start_sound class.Train None e = cc
start_sound class.Train (Some sort.Shunting) e = cc
start_sound class.Train (Some sort.Train) e = (sort.Train, refl, train_from_train)
start_sound class.Train (Some sort.Entry) e = (sort.Entry, refl, train_from_entry)
start_sound class.Shunting None e = cc
start_sound class.Shunting (Some sort.Shunting) e = (sort.Shunting, refl, shunting_from_shunting)
start_sound class.Shunting (Some sort.Train) e = (sort.Train, refl, shunting_from_train)
start_sound class.Shunting (Some sort.Entry) e = cc

start_from : (c : RouteClass) (t : Sort) → Starts c t → may_start c (Some t) ≡ true
start_from c t train_from_train = refl
start_from c t train_from_entry = refl
start_from c t shunting_from_shunting = refl
start_from c t shunting_from_train = refl

-- a path ends at a track, or at a signal entered at its rear
abbrev Ends : Kind → ℕ → Type 0
Ends k entered = (k ≡ kind.Track) ⊎ ((k ≡ kind.Signal) × (entered ≡ 0))

end_sound : (k : Kind) (entered : ℕ) → may_end k entered ≡ true → Ends k entered
end_sound kind.Track entered e = inl refl
end_sound kind.Signal entered e = inr (refl, eqb-true entered 0 e)
end_sound kind.Point entered e = cc
end_sound kind.Derailer entered e = cc
end_sound kind.PlanEnd entered e = cc

end_from : (k : Kind) (entered : ℕ) → Ends k entered → may_end k entered ≡ true
end_from k entered (inl t) = rw t
end_from k entered (inr s) = rw s.0 (eq-eqb entered 0 s.1)

end_at_sound : (k : Kind) (o : Option ℕ) → option_map_or (may_end k) o false ≡ true → (p : ℕ) × (o ≡ Some p) × (may_end k p ≡ true)
end_at_sound k None e = cc
end_at_sound k (Some p) e = (p, refl, e)

path_sound : (es : List Element) (c : RouteClass) (path : List ℕ) → is_path es c path ≡ true → SoundPath es c path
path_sound es c [] e = cc
path_sound es c (from ∷ rest) e =
    let path : List ℕ = from ∷ rest in
    let a : (ltb 2 (length path) ≡ true) × ((are_within es path && (are_new [] path && (is_start es c from && (not (are_signals_between es path) && is_end es path)))) ≡ true) = and_parts _ _ e in
    let long : 2 < length path = ltb-true 2 (length path) a.0 in
    let b : (are_within es path ≡ true) × ((are_new [] path && (is_start es c from && (not (are_signals_between es path) && is_end es path))) ≡ true) = and_parts _ _ a.1 in
    let d : (are_new [] path ≡ true) × ((is_start es c from && (not (are_signals_between es path) && is_end es path)) ≡ true) = and_parts _ _ b.1 in
    let f : (is_start es c from ≡ true) × ((not (are_signals_between es path) && is_end es path) ≡ true) = and_parts _ _ d.1 in
    let g : (not (are_signals_between es path) ≡ true) × (is_end es path ≡ true) = and_parts _ _ f.1 in
    let s : (is_signal (at es from).kind ≡ true) × (may_start c (at es from).sort ≡ true) = and_parts _ _ f.0 in
    let h : (p : ℕ) × (follows es from 0 rest ≡ Some p) × (may_end (at es (get_or path (length path - 1) 0)).kind p ≡ true)
    = end_at_sound (at es (get_or path (length path - 1) 0)).kind (follows es from 0 rest) g.1 in
    let w : Followed es from 0 rest h.0 = follows_sound es from 0 rest h.0 h.1 in
    let far : last path ≡ length rest = omega arith in
    let met : w.enters (last path) ≡ h.0 = ap w.enters far ∙ w.final in
    record {
      within = within_sound es path b.0;
      once = new_once [] path d.0;
      runs = runs_of es from rest h.0 w;
      starts_at_signal = signal_test (at es from).kind s.0;
      starts_by_sort = start_sound c (at es from).sort s.1;
      starts_forward = forward es from rest h.0 w (omega arith) (signal_test (at es from).kind s.0);
      ends = end_sound (kind_at es path (last path)) (w.enters (last path)) (ap (λ (n : ℕ). may_end (kind_at es path (last path)) n) met ∙ h.2);
      body = body_sound es path (omega arith) g.0;
    }

path_from : (es : List Element) → SoundElements es → (c : RouteClass) (path : List ℕ) → SoundPath es c path → is_path es c path ≡ true
path_from es sound c [] s = absurd (omega (arith, s.body.2))
path_from es sound c (from ∷ rest) s =
    let path : List ℕ = from ∷ rest in
    let high : suc s.body.0 < length path = s.body.2 in
    let low : 0 < s.body.0 = s.body.1 in
    let walked : follows es from 0 rest ≡ Some (s.runs.enters (length rest))
    = followed_from es sound from rest s.runs s.within s.starts_at_signal s.starts_forward (omega arith) in
    let far : last path ≡ length rest = omega arith in
    let met : s.runs.enters (length rest) ≡ s.runs.enters (last path) = ap s.runs.enters (sym far) in
    let reached : follows es from 0 rest ≡ Some (s.runs.enters (last path)) = walked ∙ ap Some met in
    let sorted : may_start c (at es from).sort ≡ true = ap (λ (o : Option Sort). may_start c o) s.starts_by_sort.1 ∙ start_from c s.starts_by_sort.0 s.starts_by_sort.2 in
    let signal : is_signal (at es from).kind ≡ true = ap is_signal s.starts_at_signal in
    let ended : is_end es path ≡ true
    = ap (λ (o : Option ℕ). option_map_or (may_end (kind_at es path (last path))) o false) reached ∙ end_from (kind_at es path (last path)) (s.runs.enters (last path)) s.ends in
    and_from _ _ (lt-ltb 2 (length path) (omega arith))
    (and_from _ _ (within_from es path s.within)
    (and_from _ _ (new_from [] path (λ j k h. absurd (omega arith)) s.once)
    (and_from _ _ (and_from _ _ signal sorted)
    (and_from _ _ (body_from es path s.body) ended))))

has_sound : (es : List Element) (r : Route) (o : Option (Bounded ℕ 24)) → r.path ≡ o → option_map_or (λ path. is_path es r.class (listed path)) o false ≡ true → HasSoundPath es r
has_sound es r None e t = cc
has_sound es r (Some path) e t = record { path = path; is = e; sound = path_sound es r.class (listed path) t }

has_from : (es : List Element) → SoundElements es → (r : Route) → HasSoundPath es r → has_path es r ≡ true
has_from es sound r h = rw h.is (path_from es sound r.class (listed h.path) h.sound)

pub paths_exact : PathsExact
paths_exact es r sound = (λ t. has_sound es r r.path refl t, has_from es sound r)
