-- The start and a turn of the loop that sends orders.
use Rattle.std.proofs.Common.{◌≡◌, ℕ, ◌+◌, get_or, refl, add-one}
use Rattle.field.specs.Meaning.{Meaning}
use Rattle.sheets.specs.declared.sheet.Sheets.{Sheets}
use Rattle.sheets.specs.Sheets.{no_element_sheet}
use Rattle.holds.specs.declared.interlocking.Interlocking.{Interlocking}
use Rattle.acts.specs.Orders.{sent_one, sent}

pub sent_none : (t : Sheets) (i : Interlocking) (r : ℕ) (m : Meaning) → sent t i r m 0 ≡ m
unfolding sent
sent_none t i r m = refl

pub sent_more : (t : Sheets) (i : Interlocking) (r : ℕ) (m : Meaning) (n : ℕ) → sent t i r m (n + 1) ≡ sent_one (get_or t.elements n no_element_sheet) i r (sent t i r m n) n
unfolding sent
sent_more t i r m n = rw add-one
