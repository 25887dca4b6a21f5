use Rattle.std.proofs.Common.{ap, ◌∙◌, reverse}
use Rattle.spoken.proofs.Blanks.{blanks_after}
use Rattle.spoken.specs.Words.{from_first_word, without_blanks_around}
use Rattle.spoken.proofs.words.without_blanks_around.Goals as goal

pub returns-clause-text : goal.returns-clause-text
unfolding without_blanks_around
returns-clause-text c =
    blanks_after c.from_first_word.result.now c.trim_end_matches.result.now c.trim_end_matches.ensures.matches
    ∙ ap (λ s. reverse (from_first_word (reverse s))) c.from_first_word.ensures.text
