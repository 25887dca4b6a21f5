use Rattle.paths.proofs.OverlapsExact.{overlaps_exact}
use Rattle.paths.proofs.overlap.has_allowed_overlap.Goals as goal

pub returns-in-Train-default-None-true-clause-exact : goal.returns-in-Train-default-None-true-clause-exact
returns-in-Train-default-None-true-clause-exact c = overlaps_exact

pub returns-in_default-default-None-false-clause-exact : goal.returns-in_default-default-None-false-clause-exact
returns-in_default-default-None-false-clause-exact c = overlaps_exact

pub returns-in-Train-Some-Some-false-clause-exact : goal.returns-in-Train-Some-Some-false-clause-exact
returns-in-Train-Some-Some-false-clause-exact c = overlaps_exact

pub returns-in_default-clause-exact : goal.returns-in_default-clause-exact
returns-in_default-clause-exact c = overlaps_exact

pub returns-in_default-2-clause-exact : goal.returns-in_default-2-clause-exact
returns-in_default-2-clause-exact c = overlaps_exact

pub returns-in_default-3-clause-exact : goal.returns-in_default-3-clause-exact
returns-in_default-3-clause-exact c = overlaps_exact

pub returns-in_default-4-clause-exact : goal.returns-in_default-4-clause-exact
returns-in_default-4-clause-exact c = overlaps_exact
