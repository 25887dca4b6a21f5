-- What is said of a line that is no command.
use Rattle.std.specs.Prelude.{ℕ, List, codes}
use Rattle.spoken.specs.declared.mistake.Mistake.{Mistake}
use Rattle.spoken.specs.declared.mistake.Mistake.TheVariants.{NoText, NoSuchCommand, WordTooMany, WantsOneNumber, WantsTwoNumbers, WantsOneNumberOrThree, NoForm, NoNews}

abbrev pub mistake_text : Mistake → List ℕ
mistake_text NoText = codes "the line is no text"
mistake_text NoSuchCommand = codes "no such command"
mistake_text WordTooMany = codes "a word too many"
mistake_text WantsOneNumber = codes "one number is wanted, 0 to 255"
mistake_text WantsTwoNumbers = codes "two numbers are wanted, 0 to 255"
mistake_text WantsOneNumberOrThree = codes "one number is wanted or three, 0 to 255"
mistake_text NoForm = codes "a field is a table, or contacts with their bytes"
mistake_text NoNews = codes "a field is told of a report, block, lamp or occupied"
