use Rattle.std.proofs.Common.{◌≡◌, ◌-◌}
use Rattle.planbytes.specs.Bytes.{times}
use Rattle.planbytes.specs.Records.{record_step}
use Rattle.planbytes.specs.Took.{left}
use Rattle.planbytes.proofs.reader.Reader.add_records.Given as goal

abbrev pub invariant-loop : goal.invariant-loop
invariant-loop g l =
    times l.count (record_step g.T.Recorded.appended g.T.Recorded.read_at) l.initial.drawing (left l.initial.self)
    ≡ times (l.count - l.counter) (record_step g.T.Recorded.appended g.T.Recorded.read_at) l.drawing (left l.self)
