-- What the words of a line ask for. A text is the list of its bytes.
use Rattle.std.specs.Prelude.{ℕ, Bool, Option, Some, None, List, [], ◌∷◌, cond, codes, length, slice_index, ◌==◌, ◌||◌, ◌&&◌, Result, Ok, Err}
use Rattle.std.specs.List.{find}
use Rattle.std.specs.Option.{option_map, ok_or}
use Rattle.std.specs.Result.{result_map_both}
use Rattle.std.specs.Str.{bytes_eq}
use Rattle.spoken.specs.Telling.{news_word}
use Rattle.spoken.specs.Words.{first_word_of, rest_of, number_in, two_numbers_in}
use Rattle.spoken.specs.declared.mistake.Mistake.{Mistake}
use Rattle.spoken.specs.declared.mistake.Mistake.TheVariants as mistake
use Rattle.spoken.specs.declared.asked.Asked.{Asked}
use Rattle.spoken.specs.declared.asked.Asked.TheVariants as asked
use Rattle.spoken.specs.declared.asked.Look.{Look}
use Rattle.spoken.specs.declared.asked.Look.TheVariants as look
use Rattle.spoken.specs.declared.asked.Work.{Work}
use Rattle.spoken.specs.declared.asked.Work.TheVariants as work
use Rattle.spoken.specs.declared.telling.Ordering.{Ordering}
use Rattle.spoken.specs.declared.telling.Telling.{Telling}
use Rattle.spoken.specs.declared.telling.News.{News}
use Rattle.spoken.specs.declared.telling.News.TheVariants as news
use Rattle.spoken.specs.declared.understanding.Line.{Line}

-- A comment begins with the sign 35, a hash.
abbrev pub is_comment : List ℕ → Bool
is_comment word = slice_index word 0 == 35

-- The command on a line is its first word, and what it goes with is the rest. A line without a word has none, nor has a comment.
abbrev pub command_in : List ℕ → Option (List ℕ × List ℕ)
command_in line = cond ((length (first_word_of line) == 0) || is_comment (first_word_of line)) None (Some (first_word_of line, rest_of line))

-- The name and the rest, as bytes.
abbrev pub both_texts : Line → List ℕ × List ℕ
both_texts line = (line.name.now, line.rest.now)

-- There is news of four sorts.
abbrev pub all_news : List News
all_news = news.Report ∷ news.Block ∷ news.Lamp ∷ news.Occupied ∷ []

-- Each is named by its word.
unfoldable pub news_in : List ℕ → Option News
news_in word = find (λ told. bytes_eq (news_word told) word) all_news

-- What a line can ask for: that a plan is read, that a field is taken, told or ordered, or a look.
pub data Wish : Type 0 where
  APlan : List ℕ → Wish
  ATable : Wish
  APicture : List ℕ → Wish
  ATelling : Telling → Wish
  AnOrder : Ordering → Wish
  ALook : Look → Wish

-- What is to be done to the field, with the digits where the program has a reference to them.
abbrev pub wish_of_work : Work → Wish
wish_of_work work.Table = ATable
wish_of_work (work.Contacts digits) = APicture digits.now
wish_of_work (work.Tell telling) = ATelling telling
wish_of_work (work.Order order) = AnOrder order

-- What is asked for, in the same way.
abbrev pub wish_of : Asked → Wish
wish_of (asked.Plan digits) = APlan digits.now
wish_of (asked.Field work) = wish_of_work work
wish_of (asked.See look) = ALook look

-- What is wished, or why the words say no wish.
abbrev pub Wished : Type 0
Wished = Result Wish Mistake

-- What is made of an answer; a mistake stays as it is.
abbrev pub unless_mistaken : {X Y : Type 0} → (X → Y) → Result X Mistake → Result Y Mistake
unless_mistaken made answer = result_map_both made (λ mistake. mistake) answer

-- Behind `field` stands `table` alone, or `contacts` with the digits of a picture.
abbrev pub field_in : List ℕ → Wished
field_in rest = cond (bytes_eq (first_word_of rest) (codes "table") && (length (rest_of rest) == 0)) (Ok ATable)
    (cond (bytes_eq (first_word_of rest) (codes "contacts")) (Ok (APicture (rest_of rest))) (Err mistake.NoForm))

-- News wants two numbers, and a word that names none is told first.
abbrev pub with_news : Option News → Option (ℕ × ℕ) → Wished
with_news None numbers = Err mistake.NoNews
with_news (Some news) None = Err mistake.WantsTwoNumbers
with_news (Some news) (Some numbers) = Ok (ATelling (record { news = news; number = numbers.0; value = numbers.1 }))

-- Behind `tell` stand the word for the news and the two numbers.
abbrev pub telling_in : List ℕ → Wished
telling_in rest = with_news (news_in (first_word_of rest)) (two_numbers_in (rest_of rest))

-- Behind `order` stand the element and the position.
abbrev pub order_in : List ℕ → Wished
order_in rest = ok_or (option_map (λ numbers. AnOrder (record { element = numbers.0; position = numbers.1 })) (two_numbers_in rest)) mistake.WantsTwoNumbers

-- Behind a look at one thing stands its number.
abbrev pub look_at : (ℕ → Look) → List ℕ → Result Look Mistake
look_at look rest = ok_or (option_map look (number_in rest)) mistake.WantsOneNumber

-- Behind another look stands nothing.
abbrev pub look_alone : Look → List ℕ → Result Look Mistake
look_alone look rest = cond (length rest == 0) (Ok look) (Err mistake.WordTooMany)

-- The looks by their names; any other name is no command.
abbrev pub look_in : List ℕ → List ℕ → Result Look Mistake
look_in name rest =
    cond (bytes_eq name (codes "flanks")) (look_at look.Flanks rest)
    (cond (bytes_eq name (codes "element")) (look_at look.Element rest)
    (cond (bytes_eq name (codes "section")) (look_at look.Section rest)
    (cond (bytes_eq name (codes "contacts")) (look_alone look.Contacts rest)
    (cond (bytes_eq name (codes "show")) (look_alone look.All rest) (Err mistake.NoSuchCommand)))))

-- What a command asks for, by its name and the rest of its line.
abbrev pub wish_in : List ℕ → List ℕ → Wished
wish_in name rest =
    cond (bytes_eq name (codes "plan")) (Ok (APlan rest))
    (cond (bytes_eq name (codes "field")) (field_in rest)
    (cond (bytes_eq name (codes "tell")) (telling_in rest)
    (cond (bytes_eq name (codes "order")) (order_in rest) (unless_mistaken ALook (look_in name rest)))))
