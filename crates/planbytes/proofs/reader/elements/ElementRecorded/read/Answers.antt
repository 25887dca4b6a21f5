use Rattle.std.proofs.Common.{rules, ◌≡◌}
use Rattle.layout.specs.declared.kind.Kind.TheVariants as kind
use Rattle.layout.specs.Numbers.{kind_of, dual_of, sort_of, marks_of}
use Rattle.planbytes.specs.Fields.{kind_in, dual_in, sort_in, marks_in}
use Rattle.planbytes.proofs.Converted.{map_said, map_or_said}
use Rattle.planbytes.proofs.reader.elements.ElementRecorded.read.Goals as goal

pub returns : goal.returns
returns c =
    let k : c.map_or.result ≡ kind_in c.in_ok-kind.kind = map_or_said kind_of kind.Track _ _ c.map_or.ensures in
    let d : c.map.result ≡ dual_in c.in_ok-dual.dual = map_said dual_of _ _ c.map.ensures.cases in
    let s : c.map-2.result ≡ sort_in c.in_ok-sort.sort = map_said sort_of _ _ c.map-2.ensures.cases in
    let m : c.map-3.result ≡ marks_in c.in_ok-marks.marks = map_said marks_of _ _ c.map-3.ensures.cases in
    search rules
