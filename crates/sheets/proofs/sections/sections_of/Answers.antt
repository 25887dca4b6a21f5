use Rattle.std.proofs.Common.{rules}
use Rattle.sheets.specs.Sections.{no_use, section_use, sections_of}
use Rattle.sheets.proofs.Filling.{filled}
use Rattle.sheets.proofs.sections.sections_of.Goals as goal

pub returns : goal.returns
unfolding sections_of
returns c = filled _ _ (section_use c.args.elements.now c.args.route.now) 64 no_use _ c.from_fn.ensures.items (λ k x q h call. search rules)
