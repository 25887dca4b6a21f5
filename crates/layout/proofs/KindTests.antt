-- The tests of kinds say what they are for.
use Rattle.std.proofs.Common.{◌≡◌, true, refl}
use Rattle.layout.specs.declared.kind.Kind.{Kind}
use Rattle.layout.specs.declared.kind.Kind.TheVariants as kind
use Rattle.layout.specs.Kinds.{is_point, is_signal}

pub point_test : (k : Kind) → is_point k ≡ true → k ≡ kind.Point
point_test kind.Point t = refl
point_test kind.Track t = cc
point_test kind.Derailer t = cc
point_test kind.Signal t = cc
point_test kind.PlanEnd t = cc

pub signal_test : (k : Kind) → is_signal k ≡ true → k ≡ kind.Signal
signal_test kind.Signal t = refl
signal_test kind.Track t = cc
signal_test kind.Point t = cc
signal_test kind.Derailer t = cc
signal_test kind.PlanEnd t = cc
