-- The number of each refusal.
use Rattle.std.specs.Prelude.{ℕ}
use Rattle.refusals.specs.declared.refusal.Refusal.{Refusal}
use Rattle.refusals.specs.declared.refusal.Refusal.TheVariants as refusal

abbrev pub number_of : Refusal → ℕ
number_of refusal.NoSuchRoute = 10
number_of refusal.StandsAlready = 11
number_of refusal.SectionInUse = 12
number_of refusal.HeldOtherwise = 13
number_of refusal.NotStanding = 14
number_of refusal.PathOccupied = 15
number_of refusal.NotOfThePlan = 16
number_of refusal.ListTooShort = 17
