-- Lists, read item by item.
use Rattle.std.specs.Prelude.{ℕ, Ok}
use Rattle.bounded.specs.declared.bounded.Bounded.{Bounded}
use Rattle.bounded.specs.Lists.{pushed}
use Rattle.planbytes.specs.Bytes.{Read, and_then, times}

-- One item more of a list.
abbrev pub item_step : {X : Type 0} → {N : ℕ} → Read X → Bounded X N → Read (Bounded X N)
item_step read xs bs = and_then (read bs) (λ x cs. Ok (pushed xs x, cs))

-- As many items more as a count says.
abbrev pub items_at : {X : Type 0} → {N : ℕ} → Read X → ℕ → Bounded X N → Read (Bounded X N)
items_at read n xs bs = times n (item_step read) xs bs
