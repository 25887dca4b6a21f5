use Rattle.std.proofs.Common.{rules}
use Rattle.sheets.specs.Wants.{no_want, want_at, wants_of}
use Rattle.sheets.proofs.Filling.{filled}
use Rattle.sheets.proofs.wants.wants_of.Goals as goal

pub returns : goal.returns
unfolding wants_of want_at
returns c = filled _ _ (want_at c.args.elements.now c.args.route.now) 96 no_want _ c.from_fn.ensures.items (λ k x q h call. search rules)
