-- The test of an element's fields passes exactly the elements that have the fields of their kind.
use Rattle.std.proofs.Common.{◌≡◌, ℕ, ◌<◌, ◌≤◌, Bool, true, false, not, ◌&&◌, ◌||◌, ltb, is_some, Some, None, Option, sym, refl, ap, ◌∙◌, inl, inr, arith}
use Rattle.std.proofs.option.Match.{None-if_not_some}
use Rattle.std.proofs.lemmas.Bool.{and_parts, and_from, not-true, cases_lt, lt-ltb, le-ltb, ltb-true}
use Rattle.std.specs.Bool.{beq}
use Rattle.std.specs.Cmp.{booleans_Decides}
use Rattle.layout.specs.declared.element.Element.{Element}
use Rattle.layout.specs.declared.element.Join.{Join}
use Rattle.layout.specs.declared.kind.Kind.{Kind}
use Rattle.layout.specs.declared.kind.Kind.TheVariants as kind
use Rattle.layout.specs.declared.kind.Sort.{Sort}
use Rattle.layout.specs.declared.kind.Sort.TheVariants as sort
use Rattle.layout.specs.declared.kind.Marks.{Marks}
use Rattle.layout.specs.Kinds.{ports, is_sectioned, is_point, is_signal}
use Rattle.layout.specs.Ports.{join_of}
use Rattle.layout.specs.Sound.{HasItsFields}
use Rattle.layout.proofs.Values.{some_of}
use Rattle.layout.proofs.EveryTurn.{every_each, every_from}
use Rattle.layout.proofs.KindTests.{point_test, signal_test}
use Rattle.flank.specs.Signals.{is_requested}
use Rattle.plan.specs.ElementTests.{is_join_its_own, are_joins_its_own, are_fields_needed, are_fields_allowed, is_section_low, has_its_fields, is_entry, is_entry_unmarked}

few_ports : (k : Kind) → ports k ≤ 3
few_ports kind.Track = omega arith
few_ports kind.Point = omega arith
few_ports kind.Derailer = omega arith
few_ports kind.Signal = omega arith
few_ports kind.PlanEnd = omega arith

-- a port below three is joined exactly if the kind has it
own_at : (e : Element) → are_joins_its_own e ≡ true → (p : ℕ) → p < 3 → is_some (join_of e p) ≡ ltb p (ports e.kind)
own_at e t p h = (booleans_Decides _ _).0 (every_each (is_join_its_own e) 3 0 t p (omega arith) (omega (arith, h)))

high_port : (e : Element) (p : ℕ) → 3 ≤ p → join_of e p ≡ None
high_port e p h = let t : ltb p 3 ≡ false = le-ltb p 3 h in rw t

each_port : (e : Element) → are_joins_its_own e ≡ true → (p : ℕ) → p < ports e.kind → (j : Join) × (join_of e p ≡ Some j)
each_port e t p h = some_of (join_of e p) (own_at e t p (omega (arith, few_ports e.kind)) ∙ lt-ltb p (ports e.kind) h)

no_other : (e : Element) → are_joins_its_own e ≡ true → (p : ℕ) → ports e.kind ≤ p → join_of e p ≡ None
no_other e t p h = elim (cases_lt p 3) [
  | inl l ↦ None-if_not_some (join_of e p) (own_at e t p l ∙ le-ltb p (ports e.kind) h)
  | inr g ↦ high_port e p g
]

port_agrees : (e : Element) → HasItsFields e → (p : ℕ) → is_join_its_own e p ≡ true
port_agrees e f p = (booleans_Decides _ _).1 (elim (cases_lt p (ports e.kind)) [
  | inl l ↦ ap is_some (f.each_port p l).1 ∙ sym (lt-ltb p (ports e.kind) l)
  | inr g ↦ ap is_some (f.no_other p g) ∙ sym (le-ltb p (ports e.kind) g)
])

-- a field that may be there only where a test holds
only_where : (there holds : Bool) → (not there || holds) ≡ true → there ≡ true → holds ≡ true
only_where true holds t e = t
only_where false holds t e = cc

only_from : (there holds : Bool) → (there ≡ true → holds ≡ true) → (not there || holds) ≡ true
only_from true holds h = h refl
only_from false holds h = refl

-- a section has a number that sections have
low_sound : (o : Option ℕ) (s : ℕ) → o ≡ Some s → is_section_low o ≡ true → s < 64
low_sound o s is t = ltb-true s 64 (sym (ap is_section_low is) ∙ t)

low_from : (o : Option ℕ) → ((s : ℕ) → o ≡ Some s → s < 64) → is_section_low o ≡ true
low_from None h = refl
low_from (Some s) h = lt-ltb s 64 (h s refl)

pub fields_sound : (e : Element) → has_its_fields e ≡ true → HasItsFields e
fields_sound e t =
    let a = and_parts (are_joins_its_own e) _ t in
    let b = and_parts (are_fields_needed e) _ a.1 in
    let needed = and_parts (beq (is_some e.section) (is_sectioned e.kind)) _ b.0 in
    let c = and_parts (are_fields_allowed e) _ b.1 in
    let allowed = and_parts (not (is_some e.dual) || is_point e.kind) _ c.0 in
    record {
      each_port = each_port e a.0;
      no_other = no_other e a.0;
      section = (booleans_Decides _ _).0 needed.0;
      section_low = λ s is. low_sound e.section s is c.1;
      sort = (booleans_Decides _ _).0 needed.1;
      dual = λ h. point_test e.kind (only_where _ _ allowed.0 h);
      marks = λ h. signal_test e.kind (only_where _ _ allowed.1 h);
    }

pub fields_from : (e : Element) → HasItsFields e → has_its_fields e ≡ true
fields_from e f =
    and_from _ _ (every_from (is_join_its_own e) 3 0 (λ p l m. port_agrees e f p))
    (and_from _ _ (and_from _ _ ((booleans_Decides _ _).1 f.section) ((booleans_Decides _ _).1 f.sort))
    (and_from _ _
    (and_from _ _ (only_from (is_some e.dual) (is_point e.kind) (λ h. ap is_point (f.dual h)))
    (only_from (is_some e.marks) (is_signal e.kind) (λ h. ap is_signal (f.marks h))))
    (low_from e.section f.section_low)))

-- an entry signal is unmarked exactly if it is not requested at a flank
abbrev pub EntryUnmarked : Element → Type 0
EntryUnmarked e = (m : Marks) → e.sort ≡ Some sort.Entry → e.marks ≡ Some m → m.requested ≡ false

pub entry_sound : (e : Element) → is_entry_unmarked e ≡ true → EntryUnmarked e
entry_sound e t m s k =
    let a : (is_entry e.sort && is_requested e.marks) ≡ false = not-true _ t in
    let b : (is_entry e.sort && is_requested e.marks) ≡ m.requested = rw (s, k) in sym b ∙ a

entry_at : (s : Option Sort) (k : Option Marks) → ((m : Marks) → s ≡ Some sort.Entry → k ≡ Some m → m.requested ≡ false) → not (is_entry s && is_requested k) ≡ true
entry_at None k h = refl
entry_at (Some sort.Shunting) k h = refl
entry_at (Some sort.Train) k h = refl
entry_at (Some sort.Entry) None h = refl
entry_at (Some sort.Entry) (Some m) h = ap not (h m refl refl)

pub entry_from : (e : Element) → EntryUnmarked e → is_entry_unmarked e ≡ true
entry_from e h = entry_at e.sort e.marks h

-- an entry signal that fails is marked as requested
abbrev pub EntryMarked : Element → Type 0
EntryMarked e = (m : Marks) × (e.sort ≡ Some sort.Entry) × (e.marks ≡ Some m) × (m.requested ≡ true)

marked_at : (s : Option Sort) (k : Option Marks) → not (is_entry s && is_requested k) ≡ false → (m : Marks) × (s ≡ Some sort.Entry) × (k ≡ Some m) × (m.requested ≡ true)
marked_at None k t = cc
marked_at (Some sort.Shunting) k t = cc
marked_at (Some sort.Train) k t = cc
marked_at (Some sort.Entry) None t = cc
marked_at (Some sort.Entry) (Some m) t = (m, refl, refl, not_from_true m.requested t)
  where
    not_from_true : (b : Bool) → not b ≡ false → b ≡ true
    not_from_true true e = refl
    not_from_true false e = cc

pub entry_marked : (e : Element) → is_entry_unmarked e ≡ false → EntryMarked e
entry_marked e t = marked_at e.sort e.marks t
