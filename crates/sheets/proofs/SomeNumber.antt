-- What the test says whether something is there and is a certain number.
use Rattle.std.proofs.Common.{◌≡◌, ℕ, true, nat_eq, Some, None, Option, sym, refl, ap}
use Rattle.std.specs.Option.{option_eq}
use Rattle.std.proofs.lemmas.Bool.{eqb-true, eq-eqb, true≢false}

pub number_is : (o : Option ℕ) (n : ℕ) → option_eq nat_eq o (Some n) ≡ true → o ≡ Some n
number_is None n e = absurd (true≢false (sym e))
number_is (Some k) n e = ap Some (eqb-true k n e)

pub is_number : (o : Option ℕ) (n : ℕ) → o ≡ Some n → option_eq nat_eq o (Some n) ≡ true
is_number o n e = rw e (eq-eqb n n refl)
