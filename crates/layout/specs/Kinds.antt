-- What the kind of an element says of it.
use Rattle.std.specs.Prelude.{ℕ, Bool, true, false}
use Rattle.layout.specs.declared.kind.Kind.{Kind}
use Rattle.layout.specs.declared.kind.Kind.TheVariants as kind

-- How many ports an element has; they are numbered from 0.
-- Port 0 of a point is its toe, 1 its plus leg, 2 its minus leg. Port 0 of a signal is its rear, 1 its front.
abbrev pub ports : Kind → ℕ
ports kind.Track = 2
ports kind.Point = 3
ports kind.Derailer = 2
ports kind.Signal = 2
ports kind.PlanEnd = 1

-- Tracks, points and derailers lie in a section.
abbrev pub is_sectioned : Kind → Bool
is_sectioned kind.Track = true
is_sectioned kind.Point = true
is_sectioned kind.Derailer = true
is_sectioned kind.Signal = false
is_sectioned kind.PlanEnd = false

abbrev pub is_point : Kind → Bool
is_point kind.Track = false
is_point kind.Point = true
is_point kind.Derailer = false
is_point kind.Signal = false
is_point kind.PlanEnd = false

abbrev pub is_signal : Kind → Bool
is_signal kind.Track = false
is_signal kind.Point = false
is_signal kind.Derailer = false
is_signal kind.Signal = true
is_signal kind.PlanEnd = false
