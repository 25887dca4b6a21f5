-- What each refusal reads.
use Rattle.std.specs.Prelude.{ℕ, List, ◌++◌, codes, decimal}
use Rattle.refusals.specs.declared.refusal.Refusal.{Refusal}
use Rattle.refusals.specs.declared.refusal.Refusal.TheVariants as refusal
use Rattle.refusals.specs.Numbers.{number_of}

-- Why, in words.
abbrev pub words_of : Refusal → List ℕ
words_of refusal.NoSuchRoute = codes "no such route"
words_of refusal.StandsAlready = codes "the route stands already"
words_of refusal.SectionInUse = codes "another route uses a section of it"
words_of refusal.HeldOtherwise = codes "an element is held in the other position"
words_of refusal.NotStanding = codes "the route does not stand"
words_of refusal.PathOccupied = codes "a section of its path is occupied"
words_of refusal.NotOfThePlan = codes "the plan has no such number, or there is no such value"
words_of refusal.ListTooShort = codes "a list is too short"

-- A refusal is told with its number and its words.
abbrev pub text_of : Refusal → List ℕ
text_of r = codes "refused " ++ (decimal (number_of r) ++ (codes ", " ++ words_of r))
