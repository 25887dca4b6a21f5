-- The law over runs. A station is opened on a checked plan and on a field with any content, and then sets, clears, releases and events come,
-- in any number and order, refused or not. After every act, for every route that stands: while its signal is permissive it is guarded,
-- and the act leaves it undisturbed; every two that stand are apart.
use Rattle.std.specs.Prelude.{◌≡◌, ℕ, ◌+◌, ◌<◌, ◌≤◌, false, ◌≢◌, ◌⊎◌, List, length, take, Some, slice_index_or}
use Rattle.layout.specs.declared.drawing.Drawing.{Drawing}
use Rattle.layout.specs.declared.position.Position.{Position}
use Rattle.layout.specs.Uses.{Uses}
use Rattle.walks.specs.Walks.{Requested}
use Rattle.plan.specs.Flanks.{route_of}
use Rattle.sheetlaws.specs.Routes.{elements_of}
use Rattle.sheetlaws.specs.Ends.{first_element}
use Rattle.field.specs.Meaning.{Meaning, report_of, order_of, occupied_of}
use Rattle.acts.specs.declared.act.Act.{Act}
use Rattle.acts.specs.declared.act.Act.TheVariants as act
use Rattle.acts.specs.Situations.{Situation}
use Rattle.safety.specs.Words.{run, Standing, Holds, RouteUses, Excused, Moved, Passes, Shielding, Permissive, Orders}

-- Two routes share no section, unless one begins at the last signal of the other and the other uses that section in its overlap only.
-- An element that both hold, both hold in one position.
pub record Apart (d : Drawing) (s : Situation) (a b : ℕ) : Type 0 where
  pub sections : (x : ℕ) → RouteUses d a x → RouteUses d b x → Excused d a b x ⊎ Excused d b a x
  pub positions : (e : ℕ) (p q : Position) → Holds s a e p → Holds s b e q → p ≡ q

-- Every point and derailer that a route uses is held by it in the position in which it passes it, and reported there.
-- Every section that it uses is free. On every walk out of its flanks the first element able to shield is held by the route
-- in its shielding position, and shields.
pub record Guarded (d : Drawing) (s : Situation) (a : ℕ) : Type 0 where
  pub elements :
      (e : ℕ) → Uses (elements_of d) (route_of d a) e → Moved (elements_of d) e
      → (p : Position) × Passes (elements_of d) (route_of d a) e p × Holds s a e p × (report_of s.meant e ≡ Some p)
  pub sections : (x : ℕ) → RouteUses d a x → occupied_of s.meant x ≡ false
  pub flanks :
      (e : ℕ) (p : Position) → Requested (elements_of d) (route_of d a) e p
      → Holds s a e p × Shielding (elements_of d) s.meant e p

-- What a route held before an act, it holds after it in the same position. No act orders an element that the route holds to the other
-- position. The standing order of an element to which the act sends no order stays. So the standing order of an element that the route holds
-- stays, or becomes the position in which the route holds it.
pub record Undisturbed (d : Drawing) (before : Situation) (a : Act) (after : Situation) (r : ℕ) : Type 0 where
  pub kept : (e : ℕ) (p : Position) → Holds before r e p → Holds after r e p
  pub orders : (e : ℕ) (p q : Position) → Holds after r e p → Orders d before a e q → q ≡ p
  pub others : (e : ℕ) → ((q : Position) → Orders d before a e q → ⊥) → order_of after.meant e ≡ order_of before.meant e
  pub standing :
      (e : ℕ) (p : Position) → Holds after r e p
      → (order_of after.meant e ≡ order_of before.meant e) ⊎ (order_of after.meant e ≡ Some p)

-- What holds after an act. Two standing routes never begin at one signal.
pub record Safe (d : Drawing) (before : Situation) (a : Act) (after : Situation) : Type 0 where
  pub apart : (r q : ℕ) → r ≢ q → Standing after r → Standing after q → Apart d after r q
  pub guarded : (r : ℕ) → Standing after r → Permissive d after r → Guarded d after r
  pub undisturbed : (r : ℕ) → Standing after r → Undisturbed d before a after r
  pub starts : (r q : ℕ) → r ≢ q → Standing after r → Standing after q → first_element d r ≢ first_element d q

-- It holds after every act of a run.
abbrev pub SafeRun : Drawing → Meaning → List Act → Type 0
SafeRun d m acts = (n : ℕ) → n < length acts → Safe d (run d m (take n acts)) (slice_index_or acts n (act.Set 0)) (run d m (take (n + 1) acts))

-- Until it is released, an element that a route holds stays the route's in the same position: from any act to any later one
-- between which the route stands after every act.
abbrev pub UntilReleased : Drawing → Meaning → List Act → Type 0
UntilReleased d m acts =
    (r n k : ℕ) → n ≤ k → k ≤ length acts → ((j : ℕ) → n ≤ j → j ≤ k → Standing (run d m (take j acts)) r)
    → (e : ℕ) (p : Position) → Holds (run d m (take n acts)) r e p → Holds (run d m (take k acts)) r e p

-- The law of a run on a plan, from a content of the field, by a list of acts.
abbrev pub Law : Drawing → Meaning → List Act → Type 0
Law d m acts = SafeRun d m acts × UntilReleased d m acts
