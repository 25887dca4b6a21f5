use Rattle.spoken.proofs.Blanks.{blanks_before}
use Rattle.spoken.proofs.words.from_first_word.Goals as goal

pub returns-clause-text : goal.returns-clause-text
returns-clause-text c = blanks_before c.args.text.now c.trim_start_matches.result.now c.trim_start_matches.ensures.matches
