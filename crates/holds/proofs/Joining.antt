-- A turn of the loop by which a route joins the holds of what it wants.
use Rattle.std.proofs.Common.{◌≡◌, ℕ, ◌+◌, ◌<◌, List, length, get_or, drop, fold, Option, sym, ◌∙◌}
use Rattle.std.proofs.lemmas.List.{at_drop_more}
use Rattle.layout.specs.declared.position.Position.{Position}
use Rattle.holds.specs.declared.interlocking.Interlocking.{Interlocking}
use Rattle.holds.specs.Granting.{joined_if_any, joined_as}

pub joined_more : (rule : Interlocking → ℕ → Option Position) (r : ℕ) (i next whole : Interlocking) (es : List ℕ) (k : ℕ) (answer : Option Position)
    → k < length es → answer ≡ rule i (get_or es k 0) → next ≡ joined_if_any i r (get_or es k 0) answer
    → fold (joined_as rule r) i (drop k es) ≡ whole → fold (joined_as rule r) next (drop (k + 1) es) ≡ whole
joined_more rule r i next whole es k answer inside said after before =
    rw (after, said) (sym (at_drop_more (fold (joined_as rule r) i) es k 0 inside) ∙ before)
