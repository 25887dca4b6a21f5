use Rattle.std.proofs.Common.{◌≡◌, drop}
use Rattle.paths.specs.Following.{follows}
use Rattle.paths.proofs.way.follow.Given as goal

abbrev pub invariant-loop-next : goal.invariant-loop-next
invariant-loop-next l = follows l.elements l.first 0 l.rest ≡ follows l.elements l.entered.element l.entered.port (drop l.next-index l.rest)
