-- The tests of all joins pass exactly where the elements are well joined.
use Rattle.std.proofs.Common.{◌≡◌, ℕ, ◌<◌, true, not, eqb, ltb, ◌≢◌, List, length, Some, None, Option, sym, refl, ap, ◌∙◌, inl, inr, arith}
use Rattle.std.proofs.lemmas.Bool.{and_parts, and_from, not-true, not_from_false, eqb-true, eqb-false, eq-eqb, ne_eqb, ltb-true, lt-ltb, cases_eq, cases_lt}
use Rattle.layout.specs.declared.element.Element.{Element}
use Rattle.layout.specs.declared.element.Join.{Join}
use Rattle.layout.specs.Kinds.{ports}
use Rattle.layout.specs.Ports.{at, join_of, joined}
use Rattle.layout.specs.Sound.{WellJoined}
use Rattle.layout.specs.Ways.{port}
use Rattle.layout.proofs.EveryTurn.{every_each, every_from}
use Rattle.layout.proofs.JoinPorts.{joined_low}
use Rattle.plan.specs.Faults.{SoundJoin, SoundJoins}
use Rattle.plan.specs.ElementTests.{goes_to, is_join_sound, are_apart, is_apart, is_port_sound, are_joins_sound}

-- a join that leads to a port is the join to it
leads_sound : (o : Option Join) (e p : ℕ) → goes_to o e p ≡ true → o ≡ Some (port e p)
leads_sound None e p t = cc
leads_sound (Some j) e p t =
    let b : (eqb j.element e ≡ true) × (eqb j.port p ≡ true) = and_parts _ _ t in
    let x : j.element ≡ e = eqb-true j.element e b.0 in
    let y : j.port ≡ p = eqb-true j.port p b.1 in
    ap Some (λ i. record { element = x i; port = y i })

leads_from : (o : Option Join) (e p : ℕ) → o ≡ Some (port e p) → goes_to o e p ≡ true
leads_from o e p h = rw h (and_from _ _ (eq-eqb e e refl) (eq-eqb p p refl))

join_sound : (es : List Element) (e p : ℕ) (o : Option Join) (j : Join) → o ≡ Some j → is_join_sound es e p o ≡ true → SoundJoin es e p j
join_sound es e p None j o t = cc
join_sound es e p (Some i) j o t =
    let s : is_join_sound es e p (Some j) ≡ true = ap (is_join_sound es e p) (sym o) ∙ t in
    let a = and_parts (ltb j.element (length es)) _ s in
    let b = and_parts (ltb j.port (ports (at es j.element).kind)) _ a.1 in
    let c = and_parts (not (eqb j.element e)) _ b.1 in
    record {
      known = ltb-true j.element (length es) a.0;
      has_port = ltb-true j.port _ b.0;
      elsewhere = eqb-false j.element e (not-true _ c.0);
      back = leads_sound (joined es j.element j.port) e p c.1;
    }

join_from : (es : List Element) (e p : ℕ) (o : Option Join) → ((j : Join) → o ≡ Some j → SoundJoin es e p j) → is_join_sound es e p o ≡ true
join_from es e p None h = refl
join_from es e p (Some j) h =
    let s : SoundJoin es e p j = h j refl in
    and_from _ _ (lt-ltb j.element (length es) s.known)
    (and_from _ _ (lt-ltb j.port (ports (at es j.element).kind) s.has_port)
    (and_from _ _ (not_from_false _ (ne_eqb j.element e s.elsewhere)) (leads_from (joined es j.element j.port) e p s.back)))

apart_sound : (a b : Option Join) (j k : Join) → are_apart a b ≡ true → a ≡ Some j → b ≡ Some k → j.element ≢ k.element
apart_sound a b j k t x y =
    let s : not (eqb j.element k.element) ≡ true = ap (λ (o : Option Join). are_apart o (Some k)) (sym x) ∙ ap (are_apart a) (sym y) ∙ t in
    eqb-false j.element k.element (not-true _ s)

apart_from : (a b : Option Join) → ((j k : Join) → a ≡ Some j → b ≡ Some k → j.element ≢ k.element) → are_apart a b ≡ true
apart_from None b h = refl
apart_from (Some j) None h = refl
apart_from (Some j) (Some k) h = not_from_false _ (ne_eqb j.element k.element (h j k refl refl))

module _ (es : List Element) (e : ℕ) (t : are_joins_sound es e ≡ true) where
  abbrev J : ℕ → Option Join
  J p = join_of (at es e) p

  port_at : (p : ℕ) (j : Join) → joined es e p ≡ Some j → is_port_sound es e p ≡ true
  port_at p j h = every_each (is_port_sound es e) 3 0 t p (omega arith) (omega (arith, joined_low es e p j h))

  each_sound : (p : ℕ) (j : Join) → joined es e p ≡ Some j → SoundJoin es e p j
  each_sound p j h = join_sound es e p (J p) j h (and_parts (is_join_sound es e p (J p)) _ (port_at p j h)).0

  -- of two ports, one is before the other
  apart_at : (p q : ℕ) (j k : Join) → q < p → joined es e p ≡ Some j → joined es e q ≡ Some k → j.element ≢ k.element
  apart_at p q j k before f g same =
      let apart : is_apart (at es e) p ≡ true = (and_parts (is_join_sound es e p (J p)) _ (port_at p j f)).1 in
      apart_sound (J q) (J p) k j (every_each (λ i. are_apart (J i) (J p)) p 0 apart q (omega arith) (omega (arith, before))) g f (sym same)

  once_sound : (p q : ℕ) (j k : Join) → joined es e p ≡ Some j → joined es e q ≡ Some k → j.element ≡ k.element → p ≡ q
  once_sound p q j k f g same = elim (cases_eq p q) [
    | inl s ↦ s
    | inr d ↦ elim (cases_lt p q) [
      | inl l ↦ absurd (apart_at q p k j l g f (sym same))
      | inr m ↦ absurd (apart_at p q j k (omega (arith, m, d)) f g same)
    ]
  ]

  pub joins_at : SoundJoins es e
  joins_at = record { each = each_sound; once = once_sound }

pub joins_test : (es : List Element) (e : ℕ) → SoundJoins es e → are_joins_sound es e ≡ true
joins_test es e s =
    every_from (is_port_sound es e) 3 0 (λ p l m.
    and_from _ _ (join_from es e p (joined es e p) (s.each p))
    (every_from (λ q. are_apart (joined es e q) (joined es e p)) p 0 (λ q h before.
    apart_from (joined es e q) (joined es e p) (λ j k f g same. absurd (let z : q ≡ p = s.once q p j k f g same in omega (arith, before))))))

pub joined_sound : (es : List Element) → ((e : ℕ) → e < length es → are_joins_sound es e ≡ true) → WellJoined es
joined_sound es t = record {
  inside = λ e p j h o. let s : SoundJoin es e p j = (joins_at es e (t e h)).each p j o in (s.known, s.has_port);
  back = λ e p j h o. ((joins_at es e (t e h)).each p j o).back;
  elsewhere = λ e p j h o. ((joins_at es e (t e h)).each p j o).elsewhere;
  once = λ e p q j k h f g same. (joins_at es e (t e h)).once p q j k f g same;
}

pub joins_of : (es : List Element) → WellJoined es → (e : ℕ) → e < length es → SoundJoins es e
joins_of es w e h = record {
  each = λ p j o. record { known = (w.inside e p j h o).0; has_port = (w.inside e p j h o).1; elsewhere = w.elsewhere e p j h o; back = w.back e p j h o };
  once = λ p q j k f g same. w.once e p q j k h f g same;
}

pub joined_from : (es : List Element) → WellJoined es → (e : ℕ) → e < length es → are_joins_sound es e ≡ true
joined_from es w e h = joins_test es e (joins_of es w e h)
