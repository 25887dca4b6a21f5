-- The law of every run, in the words of the sheets: a station is opened on a field, and then acts come, in any number and order, refused or not.
use Rattle.std.specs.Prelude.{◌≡◌, ℕ, ◌+◌, ◌<◌, ◌≤◌, true, false, ◌≢◌, ◌⊎◌, List, length, take, Some, Ok, fold, slice_index_or}
use Rattle.layout.specs.declared.position.Position.{Position}
use Rattle.walks.specs.Exactly.{In}
use Rattle.field.specs.Meaning.{Meaning, report_of, burning_of, order_of, occupied_of}
use Rattle.sheets.specs.declared.sheet.Sheets.{Sheets}
use Rattle.sheets.specs.Reading.{route_sheet, need_of, request_of, element_of, moves}
use Rattle.holds.specs.declared.aspect.Aspect.{Aspect}
use Rattle.holds.specs.States.{stands}
use Rattle.holds.specs.Interlockings.{hold_of, held_by, state_of}
use Rattle.holds.specs.Aspects.{permits}
use Rattle.acts.specs.declared.act.Act.{Act}
use Rattle.acts.specs.declared.act.Act.TheVariants.{Set}
use Rattle.acts.specs.Situations.{Situation, opened}
use Rattle.acts.specs.Questions.{aspect_answer}
use Rattle.acts.specs.Acts.{performed, orders_sent}
use Rattle.runlaws.specs.Lawful.{Uses, Excused, Lawful}

-- The situation after these acts.
abbrev pub run : Sheets → Meaning → List Act → Situation
run t m acts = fold (performed t) (opened m) acts

-- Route a stands.
abbrev pub Standing : Situation → ℕ → Type 0
Standing s a = stands (state_of s.inner a) ≡ true

-- Route a holds element e, and e is held in position p.
abbrev pub Holds : Situation → ℕ → ℕ → Position → Type 0
Holds s a e p = (held_by s.inner a e ≡ true) × ((hold_of s.inner e).position ≡ p)

-- Route a needs the point or derailer e in position p.
abbrev pub Passes : Sheets → ℕ → ℕ → Position → Type 0
Passes t a e p = (need_of (route_sheet t a) e ≡ Some p) × (moves (element_of t e).kind ≡ true)

-- Element e is requested to shield a flank of route a, in position p.
abbrev pub Shields : Sheets → ℕ → ℕ → Position → Type 0
Shields t a e p = request_of (route_sheet t a) e ≡ Some p

-- Asked for the start signal of route a, the station answers a permissive aspect.
abbrev pub Permissive : Sheets → Situation → ℕ → Type 0
Permissive t s a = (v : Aspect) × ((aspect_answer t s.inner (route_sheet t a).first ≡ Ok v) × (permits v ≡ true))

-- The act orders element e to position p.
abbrev pub Ordered : Sheets → Situation → Act → ℕ → Position → Type 0
Ordered t s act e p = In (record { element = e; position = p }) (orders_sent t s act)

-- Two routes share no section, unless one begins at the last signal of the other and the other does not have the section in its path.
-- An element that both hold, both hold in one position.
pub record Apart (t : Sheets) (s : Situation) (a b : ℕ) : Type 0 where
  pub sections : (x : ℕ) → Uses t a x → Uses t b x → Excused t a b x ⊎ Excused t b a x
  pub positions : (e : ℕ) (p q : Position) → Holds s a e p → Holds s b e q → p ≡ q

-- The points and derailers that a route needs are held by it as it needs them, and reported so; its sections are free.
-- What shields its flanks is held by it in the shielding position and reported in it, or for a signal its stop lamp burns.
pub record Guarded (t : Sheets) (s : Situation) (a : ℕ) : Type 0 where
  pub elements : (e : ℕ) (p : Position) → Passes t a e p → Holds s a e p × (report_of s.meant e ≡ Some p)
  pub sections : (x : ℕ) → Uses t a x → occupied_of s.meant x ≡ false
  pub held : (e : ℕ) (p : Position) → Shields t a e p → Holds s a e p
  pub reported : (e : ℕ) (p : Position) → Shields t a e p → moves (element_of t e).kind ≡ true → report_of s.meant e ≡ Some p
  pub burning : (e : ℕ) (p : Position) → Shields t a e p → moves (element_of t e).kind ≡ false → burning_of s.meant e ≡ true

-- What a route held before the act, it holds after it in the same position. No order goes to an element that it holds to the other position.
-- Where no order goes, the standing order is as it was; and so, as the field answers, an element that the route holds keeps its standing order
-- or gets the position in which it is held.
pub record Undisturbed (t : Sheets) (before : Situation) (act : Act) (after : Situation) (a : ℕ) : Type 0 where
  pub kept : (e : ℕ) (p : Position) → Holds before a e p → Holds after a e p
  pub orders : (e : ℕ) (p q : Position) → Holds after a e p → Ordered t before act e q → q ≡ p
  pub others : (e : ℕ) → ((q : Position) → Ordered t before act e q → ⊥) → order_of after.meant e ≡ order_of before.meant e
  pub answers :
      (e : ℕ) (p : Position) → Holds after a e p
      → (order_of after.meant e ≡ order_of before.meant e) ⊎ (order_of after.meant e ≡ Some p)

-- What holds after an act.
pub record Safe (t : Sheets) (before : Situation) (act : Act) (after : Situation) : Type 0 where
  pub apart : (a b : ℕ) → a ≢ b → Standing after a → Standing after b → Apart t after a b
  pub guarded : (a : ℕ) → Standing after a → Permissive t after a → Guarded t after a
  pub undisturbed : (a : ℕ) → Standing after a → Undisturbed t before act after a

-- So it is after each of these acts, whatever came before it.
abbrev pub SafeRun : Sheets → Meaning → List Act → Type 0
SafeRun t m acts = (n : ℕ) → n < length acts → Safe t (run t m (take n acts)) (slice_index_or acts n (Set 0)) (run t m (take (n + 1) acts))

-- From one act to a later one, with route a standing after each between: what a holds stays a's in the same position.
abbrev pub UntilReleased : Sheets → Meaning → List Act → Type 0
UntilReleased t m acts =
    (a n k : ℕ) → n ≤ k → k ≤ length acts → ((j : ℕ) → n ≤ j → j ≤ k → Standing (run t m (take j acts)) a)
    → (e : ℕ) (p : Position) → Holds (run t m (take n acts)) a e p → Holds (run t m (take k acts)) a e p

-- Every run on lawful sheets is safe, and what a route holds it keeps until it is released.
abbrev pub LawOfRuns : Type 0
LawOfRuns = (t : Sheets) → Lawful t → (m : Meaning) (acts : List Act) → SafeRun t m acts × UntilReleased t m acts
