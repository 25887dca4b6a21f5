use Rattle.std.proofs.Common.{rules, refl}
use Rattle.spoken.proofs.Blanks.{first_cut}
use Rattle.spoken.specs.Words.{first_word_of, rest_of}
use Rattle.spoken.proofs.words.first_word.Goals as goal

pub returns-clause-word : goal.returns-clause-word
unfolding first_word_of
returns-clause-word c =
    let cut = first_cut c.from_first_word-text.result.now c.split_once.result c.unwrap_or.result _ c.unwrap_or.ensures refl (search rules) c.split_once.ensures.cases in
    let front = c.from_first_word-text.ensures.text in
    cc

pub returns-clause-rest : goal.returns-clause-rest
unfolding rest_of
returns-clause-rest c =
    let cut = first_cut c.from_first_word-text.result.now c.split_once.result c.unwrap_or.result _ c.unwrap_or.ensures refl (search rules) c.split_once.ensures.cases in
    let front = c.from_first_word-text.ensures.text in
    let rest = c.without_blanks_around.ensures.text in
    cc
