-- What `contains` answers of a set is what the test of its emptiness says.
use Rattle.std.proofs.Common.{◌≡◌, Bool, true, false, not, List, [], ◌∷◌, refl}
use Rattle.std.specs.List.{list_all, list_any}

pub none_holds : (test : Bool → Bool) → test true ≡ true → test false ≡ false → (xs : List Bool) → not (list_any test xs) ≡ list_all not xs
none_holds test holds fails [] = refl
none_holds test holds fails (true ∷ xs) = rw holds
none_holds test holds fails (false ∷ xs) = rw fails (none_holds test holds fails xs)
