-- What a field means after it was told or ordered by the numbers of a command.
use Rattle.std.specs.Prelude.{ℕ, List, Option, Some, None, cond, nat_lt, ◌==◌, ◌++◌, codes, decimal}
use Rattle.layout.specs.Numbers.{position_number, position_with}
use Rattle.layout.specs.declared.position.Position.{Position}
use Rattle.field.specs.Meaning.{Meaning, ordered, told_report, told_block, told_lamp, told_occupation}
use Rattle.spoken.specs.declared.telling.News.{News}
use Rattle.spoken.specs.declared.telling.News.TheVariants.{Report, Block, Lamp, Occupied}
use Rattle.spoken.specs.declared.telling.Telling.{Telling}
use Rattle.spoken.specs.declared.telling.Ordering.{Ordering}

-- A report or a standing order in numbers: that of the position, or 2 for none.
abbrev pub number_of_report : Option Position → ℕ
number_of_report (Some p) = position_number p
number_of_report None = 2

-- The word for what is told of.
abbrev pub news_word : News → List ℕ
news_word Report = codes "report"
news_word Block = codes "block"
news_word Lamp = codes "lamp"
news_word Occupied = codes "occupied"

-- A telling and an order are printed as the command that they came from.
abbrev pub telling_text : Telling → List ℕ
telling_text t = codes "tell " ++ (news_word t.news ++ (codes " " ++ (decimal t.number ++ (codes " " ++ decimal t.value))))

abbrev pub ordering_text : Ordering → List ℕ
ordering_text o = codes "order " ++ (decimal o.element ++ (codes " " ++ decimal o.position))

-- A report of 0 to 2 is told, and a block, a lamp and an occupation of 0 or 1; any other value is not.
abbrev pub after_news : Meaning → News → ℕ → ℕ → Meaning
after_news m Report n v = cond (nat_lt v 3) (told_report m n (position_with v)) m
after_news m Block n v = cond (nat_lt v 2) (told_block m n (v == 1)) m
after_news m Lamp n v = cond (nat_lt v 2) (told_lamp m n (v == 1)) m
after_news m Occupied n v = cond (nat_lt v 2) (told_occupation m n (v == 1)) m

abbrev pub after_telling : Meaning → Telling → Meaning
after_telling m t = after_news m t.news t.number t.value

-- An order to a position is carried out, and one to anything else changes nothing.
abbrev pub after_order : Meaning → ℕ → Option Position → Meaning
after_order m e (Some p) = ordered m e p
after_order m e None = m

abbrev pub after_ordering : Meaning → Ordering → Meaning
after_ordering m o = after_order m o.element (position_with o.position)
