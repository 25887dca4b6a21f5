use Rattle.std.proofs.Common.{◌≡◌, ◌++◌, take, drop}
use Rattle.acts.specs.Situations.{situation_of}
use Rattle.station.specs.Runs.{answered}
use Rattle.station.proofs.Journaled.{ends}
use Rattle.station.proofs.running.perform_all.Given as goal

-- The plan stays; what is left of the journal comes to the same end; the answers so far, with those to come, are the answers.
abbrev pub invariant-loop-entry : goal.invariant-loop-entry
invariant-loop-entry g l =
    let d = l.initial.station.plan.drawing in
    let s = situation_of g.F.Field.meaning l.station.yard in
    let start = situation_of g.F.Field.meaning l.initial.station.yard in
    (l.station.plan ≡ l.initial.station.plan)
    × (ends d s (drop l.entry-index l.journal) ≡ ends d start l.initial.journal)
    × (take l.entry-index l.journal ++ answered d s (drop l.entry-index l.journal) ≡ answered d start l.initial.journal)
