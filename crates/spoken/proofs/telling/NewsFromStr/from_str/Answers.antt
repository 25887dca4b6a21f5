use Rattle.std.proofs.Common.{rules, tests, ◌≡◌, ◌∙◌, sym}
use Rattle.std.proofs.lemmas.Iterator.{YieldsList-from_slice}
use Rattle.std.proofs.lemmas.Iterator.Consumers.{YieldsList-from_copied}
use Rattle.std.proofs.lemmas.Iterator.Search.{find_from_yields_List}
use Rattle.std.proofs.lemmas.Iterator.Adapters.{option_map_id}
use Rattle.std.specs.Str.{bytes_eq}
use Rattle.spoken.specs.Commands.{all_news, news_in}
use Rattle.spoken.specs.Telling.{news_word}
use Rattle.spoken.proofs.telling.NewsFromStr.from_str.Goals as goal

pub returns : goal.returns
unfolding news_in
returns c =
    let found : c.find.result ≡ news_in c.args.word.now =
    sym (option_map_id _) ∙ find_from_yields_List (λ told. bytes_eq (news_word told) c.args.word.now) _ _ c.find.result c.find.ensures.ran
    (YieldsList-from_copied (YieldsList-from_slice all_news cc)) (λ x b q k. search (rules, tests)) in
    search rules
