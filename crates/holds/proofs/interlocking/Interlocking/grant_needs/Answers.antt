use Rattle.std.proofs.Common.{rules}
use Rattle.holds.specs.Granting.{need_choice}
use Rattle.holds.proofs.interlocking.Interlocking.grant_needs.Goals as goal

pub returns : goal.returns
returns c = c.join_wanted.ensures (need_choice c.args.sheet.now) (λ i e p call. search rules)
