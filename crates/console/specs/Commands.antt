-- What the words of a line ask of the console. A text is the list of its bytes.
use Rattle.std.specs.Prelude.{◌≡◌, ℕ, Option, Some, None, List, cond, codes, length, ◌==◌, Result, Ok, Err}
use Rattle.std.specs.Option.{option_map, option_and_then, ok_or}
use Rattle.std.specs.Str.{bytes_eq}
use Rattle.acts.specs.declared.act.Act.{Act}
use Rattle.acts.specs.declared.act.Act.TheVariants as act
use Rattle.acts.specs.declared.act.Event.{Event}
use Rattle.acts.specs.declared.act.Event.TheVariants as event
use Rattle.spoken.specs.Commands.{Wish, wish_of, wish_in, unless_mistaken}
use Rattle.spoken.specs.Words.{first_word_of, rest_of, number_in, two_numbers_in}
use Rattle.spoken.specs.declared.mistake.Mistake.{Mistake}
use Rattle.spoken.specs.declared.mistake.Mistake.TheVariants as mistake
use Rattle.console.specs.declared.command.Command.{Command}
use Rattle.console.specs.declared.command.Command.TheVariants as command
use Rattle.console.specs.declared.command.Question.{Question}
use Rattle.console.specs.declared.command.Question.TheVariants as question

-- What a line can ask for: what is asked of a closed station or at any time, that the station is opened or closed, an act, or an answer.
pub data Bidding : Type 0 where
  Usual : Wish → Bidding
  Opening : Bidding
  Performing : Act → Bidding
  Answering : Question → Bidding
  Closing : Bidding

-- What a command asks for, with the bytes of a text where the program has a reference to it.
abbrev pub bidding_of : Command → Bidding
bidding_of (command.Usual asked) = Usual (wish_of asked)
bidding_of command.Open = Opening
bidding_of (command.Perform act) = Performing act
bidding_of (command.Ask question) = Answering question
bidding_of command.Close = Closing

-- What is bidden, or why the words bid nothing.
abbrev pub Bidden : Type 0
Bidden = Result Bidding Mistake

-- A command bids what its numbers choose, or is a mistake without them.
abbrev pub Bids : {X : Type 0} → Option X → Mistake → (X → Bidding → Type 0) → Result Command Mistake → Type 0
Bids None mistake Chooses answer = answer ≡ Err mistake
Bids (Some numbers) mistake Chooses answer = (command : Command) × (answer ≡ Ok command) × Chooses numbers (bidding_of command)

-- A command that is one word has nothing behind it.
abbrev pub alone_in : Bidding → List ℕ → Bidden
alone_in bidding rest = cond (length rest == 0) (Ok bidding) (Err mistake.WordTooMany)

-- Behind one on a route or a signal stands its number.
abbrev pub numbered_in : (ℕ → Bidding) → List ℕ → Bidden
numbered_in bidding rest = ok_or (option_map bidding (number_in rest)) mistake.WantsOneNumber

-- Behind what is told stand the number of the element or section and the value.
abbrev pub told_in : (ℕ → ℕ → Event) → List ℕ → Bidden
told_in event rest = ok_or (option_map (λ numbers. Performing (act.Tell (event numbers.0 numbers.1))) (two_numbers_in rest)) mistake.WantsTwoNumbers

-- Behind the number of a route whose protection is asked for stands nothing, or the lengths of two lists.
abbrev pub lent_in : ℕ → List ℕ → Option Question
lent_in route rest = cond (length rest == 0) (Some (question.Protection route)) (option_map (λ lengths. question.Lent route lengths.0 lengths.1) (two_numbers_in rest))

-- What is asked of the protection of a route.
abbrev pub protection_in : List ℕ → Option Question
protection_in rest = option_and_then (λ route. lent_in route (rest_of rest)) (number_in (first_word_of rest))

-- What a command bids, by its name and the rest of its line.
abbrev pub bidding_in : List ℕ → List ℕ → Bidden
bidding_in name rest =
    cond (bytes_eq name (codes "open")) (alone_in Opening rest)
    (cond (bytes_eq name (codes "close")) (alone_in Closing rest)
    (cond (bytes_eq name (codes "replay")) (alone_in (Answering question.Replay) rest)
    (cond (bytes_eq name (codes "set")) (numbered_in (λ route. Performing (act.Set route)) rest)
    (cond (bytes_eq name (codes "clear")) (numbered_in (λ route. Performing (act.Clear route)) rest)
    (cond (bytes_eq name (codes "release")) (numbered_in (λ route. Performing (act.Release route)) rest)
    (cond (bytes_eq name (codes "report")) (told_in event.Report rest)
    (cond (bytes_eq name (codes "block")) (told_in event.Block rest)
    (cond (bytes_eq name (codes "lamp")) (told_in event.Lamp rest)
    (cond (bytes_eq name (codes "occupy")) (told_in event.Occupation rest)
    (cond (bytes_eq name (codes "state")) (numbered_in (λ route. Answering (question.State route)) rest)
    (cond (bytes_eq name (codes "aspect")) (numbered_in (λ signal. Answering (question.Aspect signal)) rest)
    (cond (bytes_eq name (codes "protection")) (ok_or (option_map Answering (protection_in rest)) mistake.WantsOneNumberOrThree)
    (unless_mistaken Usual (wish_in name rest))))))))))))))
