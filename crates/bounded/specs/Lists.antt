-- What a bounded list holds, the empty one, and one item more.
use Rattle.std.specs.Prelude.{cond, List, ℕ, ◌+◌, min, ltb, take, set, replicate}
use Rattle.bounded.specs.declared.bounded.Bounded.{Bounded}

-- The items that a bounded list holds, in order.
abbrev pub listed : {T : Type 0} {N : ℕ} → Bounded T N → List T
listed {T} {N} b = take (min b.count N) b.places

-- A table with one item in all its N places.
unfoldable pub blanks : {T : Type 0} → ℕ → T → List T
blanks n blank = replicate n blank

-- The list that holds nothing, with `blank` in every place.
abbrev pub empty_of : {T : Type 0} {N : ℕ} → T → Bounded T N
empty_of {T} {N} blank = record { count = 0; places = blanks N blank }

-- One item more at the end; a full list stays as it is.
abbrev pub pushed : {T : Type 0} {N : ℕ} → Bounded T N → T → Bounded T N
pushed {T} {N} b x = cond (ltb b.count N) (record { count = b.count + 1; places = set b.places b.count x }) b
