-- What the route does not use it does not need, but for its start signal.
use Rattle.std.proofs.Common.{◌≡◌, ℕ, ◌<◌, false, List, get_or, None, refl}
use Rattle.layout.specs.declared.element.Element.{Element}
use Rattle.layout.specs.declared.kind.Kind.{Kind}
use Rattle.layout.specs.declared.kind.Kind.TheVariants as kind
use Rattle.layout.specs.declared.route.Route.{Route}
use Rattle.layout.specs.Ports.{at}
use Rattle.flank.specs.Used.{used_table}
use Rattle.flank.specs.Flanks.{flank_of}
use Rattle.flank.proofs.Unused.{unused_none}
use Rattle.sheets.specs.Wants.{derailer_need, passed_need}

moved_unused : (k : Kind) → derailer_need k false ≡ None
moved_unused kind.Track = refl
moved_unused kind.Point = refl
moved_unused kind.Derailer = refl
moved_unused kind.Signal = refl
moved_unused kind.PlanEnd = refl

pub unneeded : (es : List Element) (r : Route) (e : ℕ) → e < 96 → get_or (used_table es r) e false ≡ false
    → passed_need (flank_of es r e) (derailer_need (at es e).kind false) ≡ None
unneeded es r e low h = rw (unused_none es r e low h) (moved_unused (at es e).kind)
