-- A drawing to which elements alone are added, or routes alone, is the one with that list extended by them.
use Rattle.std.proofs.Common.{◌≡◌, ℕ, zero, suc, Ok, Err, refl, ap, ◌∙◌}
use Rattle.bounded.specs.declared.bounded.Bounded.{Bounded}
use Rattle.bounded.specs.Lists.{pushed}
use Rattle.layout.specs.declared.drawing.Drawing.{Drawing}
use Rattle.layout.specs.Drawings.{with_element, with_route}
use Rattle.planbytes.specs.Bytes.{Bytes, Reading, Read, and_then, times}
use Rattle.planbytes.specs.Fields.{element_at, route_at}
use Rattle.planbytes.specs.Items.{item_step, items_at}
use Rattle.planbytes.specs.Records.{record_step, records_at}

module _ {X : Type 0} {N : ℕ} (appended : Drawing → X → Drawing) (read : Read X) (with_list : Bounded X N → Drawing)
    (last : (xs : Bounded X N) (x : X) → appended (with_list xs) x ≡ with_list (pushed xs x)) where
  one_more : (n : ℕ) → ((xs : Bounded X N) (bs : Bytes) → records_at appended read n (with_list xs) bs
      ≡ and_then (items_at read n xs bs) (λ ys cs. Ok (with_list ys, cs)))
      → (xs : Bounded X N) (x : Reading X)
      → and_then (and_then x (λ v cs. Ok (appended (with_list xs) v, cs))) (times n (record_step appended read))
      ≡ and_then (and_then (and_then x (λ v cs. Ok (pushed xs v, cs))) (times n (item_step read))) (λ ys cs. Ok (with_list ys, cs))
  one_more n h xs (Err e) = refl
  one_more n h xs (Ok v) = ap (λ d. times n (record_step appended read) d v.1) (last xs v.0) ∙ h (pushed xs v.0) v.1

  extended : (n : ℕ) (xs : Bounded X N) (bs : Bytes) → records_at appended read n (with_list xs) bs
      ≡ and_then (items_at read n xs bs) (λ ys cs. Ok (with_list ys, cs))
  extended zero xs bs = refl
  extended (suc n) xs bs = one_more n (extended n) xs (read bs)

pub drawn_elements : (n : ℕ) (d : Drawing) (bs : Bytes) → records_at with_element element_at n d bs
    ≡ and_then (items_at element_at n d.elements bs) (λ es cs. Ok (record { elements = es; routes = d.routes }, cs))
drawn_elements n d bs = extended with_element element_at (λ es. record { elements = es; routes = d.routes }) (λ es e. refl) n d.elements bs

pub drawn_routes : (n : ℕ) (d : Drawing) (bs : Bytes) → records_at with_route route_at n d bs
    ≡ and_then (items_at route_at n d.routes bs) (λ rs cs. Ok (record { elements = d.elements; routes = rs }, cs))
drawn_routes n d bs = extended with_route route_at (λ rs. record { elements = d.elements; routes = rs }) (λ rs r. refl) n d.routes bs
