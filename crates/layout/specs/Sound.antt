-- What is asked of the elements of a plan, in the words of the subject.
use Rattle.std.specs.Prelude.{◌≡◌, ℕ, ◌<◌, ◌≤◌, true, false, ◌≢◌, List, length, is_some, Some, None}
use Rattle.layout.specs.declared.element.Element.{Element}
use Rattle.layout.specs.declared.element.Join.{Join}
use Rattle.layout.specs.declared.kind.Kind.TheVariants as kind
use Rattle.layout.specs.declared.kind.Sort.TheVariants as sort
use Rattle.layout.specs.declared.kind.Marks.{Marks}
use Rattle.layout.specs.Kinds.{ports, is_sectioned, is_signal}
use Rattle.layout.specs.Ports.{at, join_of, joined}
use Rattle.layout.specs.Ways.{port}

-- An element has the fields of its kind, and no other: a join for each of its ports; a section, numbered 0 to 63, where it is
-- a track, a point or a derailer; a sort where it is a signal; the dual field only where it is a point, marks only where it is a signal.
pub record HasItsFields (e : Element) : Type 0 where
  pub each_port : (p : ℕ) → p < ports e.kind → (j : Join) × (join_of e p ≡ Some j)
  pub no_other : (p : ℕ) → ports e.kind ≤ p → join_of e p ≡ None
  pub section : is_some e.section ≡ is_sectioned e.kind
  pub section_low : (s : ℕ) → e.section ≡ Some s → s < 64
  pub sort : is_some e.sort ≡ is_signal e.kind
  pub dual : is_some e.dual ≡ true → e.kind ≡ kind.Point
  pub marks : is_some e.marks ≡ true → e.kind ≡ kind.Signal

-- The joins of a plan: each goes to a port that an element of the plan has, the other end goes back,
-- no element is joined to itself, and there is at most one join between two elements.
pub record WellJoined (es : List Element) : Type 0 where
  pub inside : (e p : ℕ) (j : Join) → e < length es → joined es e p ≡ Some j → (j.element < length es) × (j.port < ports (at es j.element).kind)
  pub back : (e p : ℕ) (j : Join) → e < length es → joined es e p ≡ Some j → joined es j.element j.port ≡ Some (port e p)
  pub elsewhere : (e p : ℕ) (j : Join) → e < length es → joined es e p ≡ Some j → j.element ≢ e
  pub once : (e p q : ℕ) (j k : Join) → e < length es → joined es e p ≡ Some j → joined es e q ≡ Some k → j.element ≡ k.element → p ≡ q

-- The elements of a plan have their fields, are well joined, and no entry signal is marked as requested at a flank.
pub record SoundElements (es : List Element) : Type 0 where
  pub fields : (e : ℕ) → e < length es → HasItsFields (at es e)
  pub joins : WellJoined es
  pub entries : (e : ℕ) (m : Marks) → e < length es → (at es e).sort ≡ Some sort.Entry → (at es e).marks ≡ Some m → m.requested ≡ false
