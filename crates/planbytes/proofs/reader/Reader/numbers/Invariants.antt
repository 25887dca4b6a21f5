use Rattle.std.proofs.Common.{◌≡◌, ◌-◌}
use Rattle.bounded.specs.Lists.{empty_of}
use Rattle.planbytes.specs.Bytes.{byte_at, times}
use Rattle.planbytes.specs.Items.{item_step}
use Rattle.planbytes.specs.Took.{left}
use Rattle.planbytes.proofs.reader.Reader.numbers.Given as goal

abbrev pub invariant-loop : goal.invariant-loop
invariant-loop g l =
    times l.count (item_step byte_at) (empty_of 0) (left l.initial.self)
    ≡ times (l.count - l.counter) (item_step byte_at) l.numbers (left l.self)
