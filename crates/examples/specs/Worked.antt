-- The worked examples, in one theorem: what the definitions say of bytes, of flanks and of whole runs, on the small station K, its variants
-- and other small stations.
use Rattle.examples.specs.Readings.{WorkedReadings}
use Rattle.examples.specs.Flanks.{WorkedFlanks}
use Rattle.examples.specs.Runs.{WorkedAspects, WorkedAnswers, WorkedHolds}

abbrev pub WorkedExamples : Type 0
WorkedExamples = WorkedReadings × WorkedFlanks × WorkedAspects × WorkedAnswers × WorkedHolds
