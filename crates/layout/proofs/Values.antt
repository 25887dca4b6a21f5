-- What is there has a value.
use Rattle.std.proofs.Common.{◌≡◌, true, is_some, Some, None, Option, refl}

pub some_of : {X : Type 0} (o : Option X) → is_some o ≡ true → (x : X) × (o ≡ Some x)
some_of None e = cc
some_of (Some x) e = (x, refl)
