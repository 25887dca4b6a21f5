-- What the search finds at each meeting, and marks for findings one after another.
use Rattle.std.proofs.Common.{◌≡◌, ℕ, zero, suc, Bool, ◌⊎◌, List, [], ◌∷◌, ◌++◌, refl, inl, inr}
use Rattle.layout.specs.declared.element.Element.{Element}
use Rattle.layout.specs.declared.element.Join.{Join}
use Rattle.layout.specs.declared.position.Position.{Position}
use Rattle.layout.specs.Ways.{port}
use Rattle.flank.specs.declared.answers.Mark.{Mark}
use Rattle.flank.specs.declared.meeting.Meeting.TheVariants.{Ends, Shields, AtToe, AtLeg}
use Rattle.flank.specs.Signals.{far_end}
use Rattle.flank.specs.Meetings.{meets}
use Rattle.flank.specs.Search.{Finding, shield, open_end, found, walk, mark, marks}

pub marks_append : (fs gs : List Finding) (t : List Mark) → marks (fs ++ gs) t ≡ marks gs (marks fs t)
unfolding marks
marks_append [] gs t = refl
marks_append (f ∷ fs) gs t = marks_append fs gs (mark f t)

module _ (es : List Element) (used : List Bool) where
  -- what is found at each meeting
  pub found_shields : (n : ℕ) (m : Join) (p : Position) → meets es used m ≡ Shields p → found n es used m ≡ shield m.element p ∷ []
  unfolding found
  found_shields zero m p e = rw (e, found)
  found_shields (suc n) m p e = rw (e, found)

  pub found_ends : (n : ℕ) (m : Join) → meets es used m ≡ Ends → found n es used m ≡ []
  unfolding found
  found_ends zero m e = rw (e, found)
  found_ends (suc n) m e = rw (e, found)

  pub found_open : (m : Join) → (meets es used m ≡ AtToe) ⊎ (meets es used m ≡ AtLeg) → found 0 es used m ≡ open_end m.element ∷ []
  unfolding found
  found_open m (inl e) = rw (e, found)
  found_open m (inr e) = rw (e, found)

  pub found_at_toe : (n : ℕ) (m : Join) → meets es used m ≡ AtToe
      → found (suc n) es used m ≡ walk n es used (far_end es (port m.element 1)) ++ walk n es used (far_end es (port m.element 2))
  unfolding found
  found_at_toe n m e = rw (e, found)

  pub found_at_leg : (n : ℕ) (m : Join) → meets es used m ≡ AtLeg → found (suc n) es used m ≡ walk n es used (far_end es (port m.element 0))
  unfolding found
  found_at_leg n m e = rw (e, found)
