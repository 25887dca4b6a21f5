-- What acts order, and what becomes of the field.
use Rattle.std.specs.Prelude.{◌≡◌, ℕ, false, ◌≢◌, List, Some, None}
use Rattle.layout.specs.declared.drawing.Drawing.{Drawing}
use Rattle.layout.specs.declared.position.Position.{Position}
use Rattle.layout.specs.Ports.{at}
use Rattle.sheets.specs.Sheets.{sheets_of}
use Rattle.sheetlaws.specs.Routes.{Exactly, elements_of}
use Rattle.field.specs.Meaning.{Meaning, Sized, device_of, report_of, blocked_of, burning_of, order_of, occupied_of}
use Rattle.acts.specs.declared.act.Act.{Act}
use Rattle.acts.specs.declared.act.Act.TheVariants as act
use Rattle.acts.specs.declared.act.Event.{Event}
use Rattle.acts.specs.Situations.{Situation}
use Rattle.acts.specs.Answers.{answer}
use Rattle.acts.specs.Acts.{performed}
use Rattle.safety.specs.Words.{run, Holds, SetsOrClears, Moved, Orders}

-- An order of an element to a position is due to an act: the act sets or clears a route, and is accepted; the element is a point or derailer,
-- which the route then holds in that position; it does not report that position, its section is free, and it is not blocked.
pub record Due (d : Drawing) (s : Situation) (a : Act) (e : ℕ) (p : Position) : Type 0 where
  pub route : ℕ
  pub asked : SetsOrClears route a
  pub accepted : answer (sheets_of d) s a ≡ None
  pub moved : Moved (elements_of d) e
  pub held : Holds (performed (sheets_of d) s a) route e p
  pub elsewhere : report_of s.meant e ≢ Some p
  pub free : (x : ℕ) → (at (elements_of d) e).section ≡ Some x → occupied_of s.meant x ≡ false
  pub unblocked : blocked_of s.meant e ≡ false

-- An act sends exactly the orders that are due. An order that is sent is the standing order of its element, and the element has no control
-- until it reports anew. An act that is no event changes nothing else in what the field means: an element to which no order goes is as it was,
-- and so are every block, every lamp and every section.
pub record Ordering (d : Drawing) (s : Situation) (a : Act) : Type 0 where
  pub sent : (e : ℕ) (p : Position) → Exactly (Orders d s a e p) (Due d s a e p)
  pub standing : (e : ℕ) (p : Position) → Orders d s a e p → order_of (performed (sheets_of d) s a).meant e ≡ Some p
  pub given_up : (e : ℕ) (p : Position) → Orders d s a e p → report_of (performed (sheets_of d) s a).meant e ≡ None
  pub others :
      ((v : Event) → a ≢ act.Tell v) → (e : ℕ) → ((p : Position) → Orders d s a e p → ⊥)
      → device_of (performed (sheets_of d) s a).meant e ≡ device_of s.meant e
  pub blocks : ((v : Event) → a ≢ act.Tell v) → (e : ℕ) → blocked_of (performed (sheets_of d) s a).meant e ≡ blocked_of s.meant e
  pub lamps : ((v : Event) → a ≢ act.Tell v) → (e : ℕ) → burning_of (performed (sheets_of d) s a).meant e ≡ burning_of s.meant e
  pub sections : ((v : Event) → a ≢ act.Tell v) → (x : ℕ) → occupied_of (performed (sheets_of d) s a).meant x ≡ occupied_of s.meant x

-- So does every act after every run, on a field of 96 elements and 64 sections.
abbrev pub OrdersExactly : Drawing → Type 0
OrdersExactly d = (m : Meaning) → Sized m → (acts : List Act) (a : Act) → Ordering d (run d m acts) a
