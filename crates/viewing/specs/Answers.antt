-- What two fields answer at a number.
use Rattle.std.specs.Prelude.{◌≡◌, ℕ}
use Rattle.field.specs.Meaning.{Meaning, report_of, blocked_of, burning_of, order_of, occupied_of}

-- They answer alike where the element has the same report, block, lamp and order, and the section is occupied in both or in none.
abbrev pub AnswersAlike : Meaning → Meaning → ℕ → Type 0
AnswersAlike one other n =
    (report_of one n ≡ report_of other n)
    × (blocked_of one n ≡ blocked_of other n)
    × (burning_of one n ≡ burning_of other n)
    × (order_of one n ≡ order_of other n)
    × (occupied_of one n ≡ occupied_of other n)
