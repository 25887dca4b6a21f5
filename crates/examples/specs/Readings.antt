-- The worked readings: what the definitions say of bytes.
use Rattle.std.specs.Prelude.{◌≡◌, ℕ, [], ◌∷◌, ◌++◌, take, Some, None, Ok, Err, Option, Result, slice_set}
use Rattle.faults.specs.declared.fault.Fault.{Fault}
use Rattle.faults.specs.Numbers.{number_of, layer_of}
use Rattle.layout.specs.declared.drawing.Drawing.{Drawing}
use Rattle.plan.specs.Plans.{reading}
use Rattle.examples.specs.Plans.{k}

-- Number, layer and place of the fault in an answer, if there is one.
abbrev pub told : Result Drawing Fault → Option (ℕ × ℕ × ℕ)
told (Ok drawing) = None
told (Err fault) = Some (number_of fault.cause, layer_of fault.cause, fault.place)

-- K is accepted. No bytes: the first one is missing. The first 55 bytes: the last one is missing. A byte after K is left over.
-- The last byte of element 7 as 2: the join of point 5 to element 7 does not come back.
abbrev pub WorkedReadings : Type 0
WorkedReadings =
    (told (reading k) ≡ None)
    × (told (reading []) ≡ Some (1, 1, 0))
    × (told (reading (take 55 k)) ≡ Some (1, 1, 55))
    × (told (reading (k ++ 0 ∷ [])) ≡ Some (3, 1, 56))
    × (told (reading (slice_set k 49 2)) ≡ Some (5, 2, 5))
