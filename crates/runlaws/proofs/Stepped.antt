-- An accepted act leaves the holds and the field as its own step left them.
use Rattle.std.proofs.Common.{◌≡◌, ℕ, List, get_or, None, ap, ◌∙◌}
use Rattle.sheets.specs.declared.sheet.Sheets.{Sheets}
use Rattle.holds.specs.declared.hold.Hold.{Hold}
use Rattle.holds.specs.Holds.{free_hold}
use Rattle.holds.specs.Interlockings.{hold_of}
use Rattle.acts.specs.declared.act.Act.{Act}
use Rattle.acts.specs.Situations.{Situation}
use Rattle.acts.specs.Answers.{answer}
use Rattle.acts.specs.Acts.{stepped, after, unless, performed}
use Rattle.runlaws.proofs.Readying.{rested}

module _ (t : Sheets) (s : Situation) (a : Act) (accepted : answer t s a ≡ None) where
  pub hold_is : (e : ℕ) → hold_of (performed t s a).inner e ≡ hold_of (stepped t s.inner a) e
  hold_is e =
      let step = after t s a in
      ap (λ o. hold_of (unless o t s step).inner e) accepted
      ∙ ap (λ (hs : List Hold). get_or hs e free_hold) (rested t step.meant step.inner).holds

  pub meant_is : (performed t s a).meant ≡ (after t s a).meant
  meant_is = ap (λ o. (unless o t s (after t s a)).meant) accepted
