-- The words of a text and the numbers that they spell. A text is the list of its bytes.
use Rattle.std.specs.Prelude.{ℕ, Bool, Option, Some, None, List, [], ◌∷◌, reverse, length, cond, nat_lt, ◌==◌, ◌||◌, ◌&&◌}
use Rattle.std.specs.List.{before_first, after_first}
use Rattle.std.specs.Option.{option_zip}
use Rattle.std.specs.Str.{all_ascii_digits}
use Rattle.std.specs.Str.Parse.{digits_value}

-- Words stand between blanks, which are spaces and tabs.
abbrev pub is_blank : ℕ → Bool
is_blank sign = (sign == 32) || (sign == 9)

-- A text from its first word on, without the blanks before it.
abbrev pub from_first_word : List ℕ → List ℕ
from_first_word [] = []
from_first_word (sign ∷ more) = cond (is_blank sign) (from_first_word more) (sign ∷ more)

-- A text without the blanks at its start and at its end.
unfoldable pub without_blanks_around : List ℕ → List ℕ
without_blanks_around text = reverse (from_first_word (reverse (from_first_word text)))

-- The first word of a text ends before the next blank, or where the text ends.
unfoldable pub first_word_of : List ℕ → List ℕ
first_word_of text = before_first is_blank (from_first_word text)

-- The rest is what follows that blank.
unfoldable pub rest_of : List ℕ → List ℕ
rest_of text = without_blanks_around (after_first is_blank (from_first_word text))

-- A word is a number where it has decimal digits alone, one or more, which say at most 255.
abbrev pub is_number : List ℕ → Bool
is_number word = all_ascii_digits word && (nat_lt 0 (length word) && nat_lt (digits_value 10 word) 256)

-- The number that a word spells, if it is one.
unfoldable pub number_in : List ℕ → Option ℕ
number_in word = cond (is_number word) (Some (digits_value 10 word)) None

-- Two numbers are the first word of a text and all of its rest.
abbrev pub two_numbers_in : List ℕ → Option (ℕ × ℕ)
two_numbers_in text = option_zip (number_in (first_word_of text)) (number_in (rest_of text))
