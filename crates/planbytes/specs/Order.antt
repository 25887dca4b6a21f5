-- Going record by record, with each record read from its own bytes, reads the bytes in their order.
use Rattle.std.proofs.Common.{◌≡◌, ℕ, min, List, [], ◌∷◌, length, Err, refl, ap, sym}
use Rattle.faults.specs.declared.fault.Cause.TheVariants as cause
use Rattle.planbytes.specs.Bytes.{fault, Read}
use Rattle.planbytes.specs.Fields.{element_at, route_at}
use Rattle.planbytes.specs.Records.{element_size, route_size, byte_or_none, InOrder}
use Rattle.planbytes.specs.Local.{Local, part_says}
use Rattle.planbytes.specs.Singles.{byte_first}
use Rattle.planbytes.specs.Sizes.{element_local, route_local}

module _ {X : Type 0} (size : ℕ → List ℕ → ℕ) (f : Read X) (l : Local (λ bs. size (byte_or_none bs 0) bs) f)
    (ended : (o : ℕ) → f ([], o) ≡ Err (fault cause.Ended o)) where
  pub in_order : InOrder size f
  in_order ([], o) = sym (ended o)
  in_order (b ∷ bs, o) = part_says _ f l (b ∷ bs) o (min (size b (b ∷ bs)) (length (b ∷ bs)))
      (ap (λ m. min (size m (b ∷ bs)) (length (b ∷ bs))) (byte_first b bs))

pub element_in_order : InOrder (λ m bs. element_size m) element_at
element_in_order = in_order (λ m bs. element_size m) element_at element_local (λ o. refl)

pub route_in_order : InOrder route_size route_at
route_in_order = in_order route_size route_at route_local (λ o. refl)
