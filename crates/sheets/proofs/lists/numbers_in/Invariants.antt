use Rattle.std.proofs.Common.{◌≡◌, ℕ, get_or}
use Rattle.sheets.specs.Lists.{numbers_where}
use Rattle.sheets.proofs.lists.numbers_in.Given as goal

abbrev pub invariant-loop-number : goal.invariant-loop-number
invariant-loop-number g l =
    l.numbers ≡ numbers_where (λ (k : ℕ). g.T.Concern.is_any (get_or l.table k g.T.Concern.nothing)) l.number
