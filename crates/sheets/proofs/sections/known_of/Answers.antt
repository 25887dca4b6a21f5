use Rattle.std.proofs.Common.{false, rules}
use Rattle.sheets.specs.Sections.{is_known, known_of}
use Rattle.sheets.proofs.Filling.{filled}
use Rattle.sheets.proofs.sections.known_of.Goals as goal

pub returns : goal.returns
unfolding known_of
returns c = filled _ _ (is_known c.args.elements.now) 64 false _ c.from_fn.ensures.items (λ k x q h call. search rules)
