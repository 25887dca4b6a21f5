use Rattle.std.proofs.Common.{rules}
use Rattle.holds.specs.Granting.{request_choice}
use Rattle.holds.proofs.interlocking.Interlocking.grant_requests.Goals as goal

pub returns : goal.returns
returns c = c.join_wanted.ensures (request_choice c.args.sheet.now) (λ i e p call. search rules)
