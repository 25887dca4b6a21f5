-- The number and the layer of each fault.
use Rattle.std.specs.Prelude.{ℕ}
use Rattle.faults.specs.declared.fault.Cause.{Cause}
use Rattle.faults.specs.declared.fault.Cause.TheVariants as cause

abbrev pub number_of : Cause → ℕ
number_of cause.Ended = 1
number_of cause.OutOfRange = 2
number_of cause.LeftOver = 3
number_of cause.Fields = 4
number_of cause.Join = 5
number_of cause.EntryMarked = 6
number_of cause.Path = 7
number_of cause.Overlap = 8
number_of cause.BothWays = 9

-- Layer 1 is about bytes, layer 2 about elements, layer 3 about routes.
abbrev pub layer_of : Cause → ℕ
layer_of cause.Ended = 1
layer_of cause.OutOfRange = 1
layer_of cause.LeftOver = 1
layer_of cause.Fields = 2
layer_of cause.Join = 2
layer_of cause.EntryMarked = 2
layer_of cause.Path = 3
layer_of cause.Overlap = 3
layer_of cause.BothWays = 3
