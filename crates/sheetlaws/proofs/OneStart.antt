-- Two paths from one signal run over the same signals to the same first other element, which lies in a section of both.
use Rattle.std.proofs.Common.{◌≡◌, ℕ, zero, suc, ◌+◌, ◌<◌, ◌≤◌, Bool, true, false, ◌≢◌, List, length, Some, Option, sym, refl, ap, ◌∙◌, subst, inl, inr, arith}
use Rattle.std.proofs.lemmas.Bool.{cases_eq}
use Rattle.layout.specs.declared.element.Element.{Element}
use Rattle.layout.specs.declared.element.Join.{Join}
use Rattle.layout.specs.declared.kind.Kind.{Kind}
use Rattle.layout.specs.declared.kind.Kind.TheVariants as kind
use Rattle.layout.specs.declared.route.Route.{Route}
use Rattle.layout.specs.declared.route.RouteClass.{RouteClass}
use Rattle.layout.specs.Kinds.{ports, is_signal, is_sectioned}
use Rattle.layout.specs.Ports.{at, joined}
use Rattle.layout.specs.Sound.{SoundElements}
use Rattle.layout.specs.Ways.{place, port, kind_at, Runs}
use Rattle.layout.specs.Uses.{path_of, Between}
use Rattle.layout.proofs.KindTests.{signal_test}
use Rattle.paths.specs.Sound.{Within, last, SoundPath}
use Rattle.walks.proofs.Net.{join_low}
use Rattle.walks.proofs.Flanks.{sound_route}
use Rattle.plan.specs.Flanks.{route_of}
use Rattle.layout.proofs.Values.{some_of}
use Rattle.sheetlaws.specs.Routes.{elements_of}
use Rattle.sheetlaws.specs.Starts.{OneStart}

-- what is passed from one port to another and is no signal lies in a section
passed_kind : (k : Kind) (a b : ℕ) → is_signal k ≡ false → a < ports k → b < ports k → b ≢ a → is_sectioned k ≡ true
passed_kind kind.Track a b n l m apart = refl
passed_kind kind.Point a b n l m apart = refl
passed_kind kind.Derailer a b n l m apart = refl
passed_kind kind.Signal a b n l m apart = cc
passed_kind kind.PlanEnd a b n l m apart = absurd (apart (omega arith))

-- the other port of two
other_port : (a b c : ℕ) → a < 2 → b < 2 → c < 2 → b ≢ a → c ≢ a → b ≡ c
other_port a b c x y z m n = omega arith

-- the ports by which a way passes the element at the place suc m
module _ (es : List Element) (sound : SoundElements es) (way : List ℕ) (within : Within es way) (runs : Runs es way) (m : ℕ) (short : suc (suc m) < length way) where
  enters_low : runs.enters (suc m) < ports (kind_at es way (suc m))
  enters_low =
      join_low es sound (place way (suc m)) (runs.enters (suc m)) (port (place way m) (runs.leaves m)) (within (suc m) (omega arith))
      (sound.joins.back (place way m) (runs.leaves m) (port (place way (suc m)) (runs.enters (suc m))) (within m (omega arith)) (runs.joins m (omega arith)))

  leaves_low : runs.leaves (suc m) < ports (kind_at es way (suc m))
  leaves_low =
      join_low es sound (place way (suc m)) (runs.leaves (suc m)) (port (place way (suc (suc m))) (runs.enters (suc (suc m)))) (within (suc m) (omega arith))
      (runs.joins (suc m) short)

  ports_apart : runs.leaves (suc m) ≢ runs.enters (suc m)
  ports_apart = (runs.turns (suc m) (omega arith) short).0

module _ (es : List Element) (sound : SoundElements es) (c b : RouteClass) (P Q : List ℕ) (p : SoundPath es c P) (q : SoundPath es b Q) where
  -- an element that both paths use
  pub record Shared : Type 0 where
    pub element : ℕ
    pub place_one : ℕ
    pub place_two : ℕ
    pub in_one : Between P element place_one
    pub in_two : Between Q element place_two
    pub sectioned : is_sectioned (at es element).kind ≡ true

  -- both paths leave the place m, before their bodies, by the same port of the same element
  record Together (m : ℕ) : Type 0 where
    before_one : m < p.body.0
    before_two : m < q.body.0
    same : place P m ≡ place Q m
    leaving : p.runs.leaves m ≡ q.runs.leaves m

  next_port : (m : ℕ) → Together m → port (place P (suc m)) (p.runs.enters (suc m)) ≡ port (place Q (suc m)) (q.runs.enters (suc m))
  next_port m t =
      let one : joined es (place P m) (p.runs.leaves m) ≡ Some (port (place P (suc m)) (p.runs.enters (suc m)))
      = p.runs.joins m (omega (arith, t.before_one, p.body.2)) in
      let two : joined es (place Q m) (q.runs.leaves m) ≡ Some (port (place Q (suc m)) (q.runs.enters (suc m)))
      = q.runs.joins m (omega (arith, t.before_two, q.body.2)) in
      let both : ◌≡◌ {A = Option Join} (Some (port (place P (suc m)) (p.runs.enters (suc m)))) (Some (port (place Q (suc m)) (q.runs.enters (suc m))))
      = sym one ∙ (ap (λ (n : ℕ). joined es n (p.runs.leaves m)) t.same ∙ (ap (λ (n : ℕ). joined es (place Q m) n) t.leaving ∙ two)) in
      cc (both)

  -- from there on, they come to an element that both use
  along : (n m : ℕ) → p.body.0 ≤ m + n → Together m → Shared
  along zero m h t = absurd (omega (arith, t.before_one))
  along (suc n) m h t = go (λ u. along n (suc m) (omega arith) u) (is_signal (kind_at es P (suc m))) refl
    where
      short_one : suc (suc m) < length P
      short_one = omega (arith, t.before_one, p.body.2)

      short_two : suc (suc m) < length Q
      short_two = omega (arith, t.before_two, q.body.2)

      same_next : place P (suc m) ≡ place Q (suc m)
      same_next = ap (λ (j : Join). j.element) (next_port m t)

      same_enters : p.runs.enters (suc m) ≡ q.runs.enters (suc m)
      same_enters = ap (λ (j : Join). j.port) (next_port m t)

      further : kind_at es P (suc m) ≡ kind.Signal → Together (suc m)
      further s =
          let s' : kind_at es Q (suc m) ≡ kind.Signal = ap (λ (x : ℕ). (at es x).kind) (sym same_next) ∙ s in
          let two : ports (kind_at es P (suc m)) ≡ 2 = ap ports s in
          let two' : ports (kind_at es Q (suc m)) ≡ 2 = ap ports s' in
          let far : suc m ≢ p.body.0 = λ e. p.body.3 (ap (λ (x : ℕ). kind_at es P x) (sym e) ∙ s) in
          let far' : suc m ≢ q.body.0 = λ e. q.body.3 (ap (λ (x : ℕ). kind_at es Q x) (sym e) ∙ s') in
          record {
            before_one = elim (cases_eq (suc m) p.body.0) [ inl e ↦ absurd (far e) | inr e ↦ omega (arith, t.before_one) ];
            before_two = elim (cases_eq (suc m) q.body.0) [ inl e ↦ absurd (far' e) | inr e ↦ omega (arith, t.before_two) ];
            same = same_next;
            leaving = other_port (p.runs.enters (suc m)) (p.runs.leaves (suc m)) (q.runs.leaves (suc m))
                (omega (arith, enters_low es sound P p.within p.runs m short_one, two)) (omega (arith, leaves_low es sound P p.within p.runs m short_one, two))
                (omega (arith, leaves_low es sound Q q.within q.runs m short_two, two')) (ports_apart es sound P p.within p.runs m short_one)
                (λ e. ports_apart es sound Q q.within q.runs m short_two (e ∙ same_enters));
          }

      go : (Together (suc m) → Shared) → (b : Bool) → is_signal (kind_at es P (suc m)) ≡ b → Shared
      go on true s = on (further (signal_test (kind_at es P (suc m)) s))
      go on false s =
          record {
            element = place P (suc m);
            place_one = m;
            place_two = m;
            in_one = record { is = refl; within = short_one };
            in_two = record { is = sym same_next; within = short_two };
            sectioned = passed_kind (kind_at es P (suc m)) (p.runs.enters (suc m)) (p.runs.leaves (suc m)) s (enters_low es sound P p.within p.runs m short_one)
                (leaves_low es sound P p.within p.runs m short_one) (ports_apart es sound P p.within p.runs m short_one);
          }

  pub shared : place P 0 ≡ place Q 0 → Shared
  shared e =
      along p.body.0 0 (omega arith)
      (record { before_one = p.body.1; before_two = q.body.1; same = e; leaving = p.starts_forward ∙ sym q.starts_forward })

-- the first element of a path is not its last
ends_apart : (es : List Element) (c : RouteClass) (P : List ℕ) → SoundPath es c P → place P 0 ≢ place P (last P)
ends_apart es c P p = p.once 0 (last P) (omega (arith, p.body.1, p.body.2)) (omega (arith, p.body.2))

pub one_start : OneStart
one_start d s i j h k e =
    let es : List Element = elements_of d in
    let r : Route = route_of d i in
    let t : Route = route_of d j in
    let p : SoundPath es r.class (path_of r) = (sound_route es r (s.paths i h) (s.overlaps i h)).path in
    let q : SoundPath es t.class (path_of t) = (sound_route es t (s.paths j k) (s.overlaps j k)).path in
    let x : Shared es s.elements r.class t.class (path_of r) (path_of t) p q = shared es s.elements r.class t.class (path_of r) (path_of t) p q e in
    let known : x.element < length es
    = subst (λ (n : ℕ). n < length es) x.in_one.is (p.within (suc x.place_one) (omega (arith, x.in_one.within))) in
    let lies : (n : ℕ) × ((at es x.element).section ≡ Some n)
    = some_of (at es x.element).section ((s.elements.fields x.element known).section ∙ x.sectioned) in (
      (
        lies.0,
        (s.elements.fields x.element known).section_low lies.0 lies.1,
        (x.element, record { at_place = x.place_one; between = x.in_one; sectioned = x.sectioned }, lies.1),
        (x.element, record { at_place = x.place_two; between = x.in_two; sectioned = x.sectioned }, lies.1),
      ),
      (λ f. ends_apart es t.class (path_of t) q (sym e ∙ f)),
      (λ f. ends_apart es r.class (path_of r) p (e ∙ f)),
    )
