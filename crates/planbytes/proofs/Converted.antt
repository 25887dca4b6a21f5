-- What an optional number is turned into, told by the function that turns numbers.
use Rattle.std.proofs.Common.{◌≡◌, ℕ, Some, None, Option, ap}
use Rattle.std.specs.Prelude.{MatchOption, IsSomeAnd, option_map}
use Rattle.std.specs.Option.{option_map_or}

pub map_said : {X : Type 0} (f : ℕ → X) (o : Option ℕ) (r : Option X) → MatchOption o (r ≡ None) (λ x. IsSomeAnd r (λ y. y ≡ f x)) → r ≡ option_map f o
map_said f None r e = e
map_said f (Some x) (Some y) e = ap Some e
map_said f (Some x) None e = absurd e

pub map_or_said : {X : Type 0} (f : ℕ → X) (d : X) (o : Option ℕ) (r : X) → MatchOption o (r ≡ d) (λ x. r ≡ f x) → r ≡ option_map_or f o d
map_or_said f d None r e = e
map_or_said f d (Some x) r e = e
