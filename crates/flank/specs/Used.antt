-- The table of the elements that a route uses.
use Rattle.std.specs.Prelude.{ℕ, Bool, true, false, cond, List, [], ◌∷◌, replicate, slice_set}
use Rattle.layout.specs.declared.element.Element.{Element}
use Rattle.layout.specs.declared.route.Route.{Route}
use Rattle.layout.specs.Kinds.{is_sectioned}
use Rattle.layout.specs.Ports.{at}
use Rattle.layout.specs.Ways.{inner}
use Rattle.layout.specs.Uses.{path_of, overlap_of}

-- The table with one element more, if that lies in a section.
abbrev pub with_one : List Element → ℕ → List Bool → List Bool
with_one es e used = cond (is_sectioned (at es e).kind) (slice_set used e true) used

-- The table with the tracks, points and derailers of a way.
unfoldable pub with_used : List Element → List ℕ → List Bool → List Bool
with_used es [] used = used
with_used es (e ∷ way) used = with_used es way (with_one es e used)

-- The tracks, points and derailers strictly between the first and the last element of the path, and those of the overlap.
unfoldable pub used_table : List Element → Route → List Bool
used_table es r = with_used es (overlap_of r) (with_used es (inner (path_of r)) (replicate 96 false))
