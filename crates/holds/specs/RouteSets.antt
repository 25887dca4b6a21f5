-- Sets of routes.
use Rattle.std.specs.Prelude.{ℕ, Bool, true, false, not, replicate, slice_index_or, slice_set}
use Rattle.std.specs.List.{list_all}
use Rattle.holds.specs.declared.routes.RouteSet.{RouteSet}

abbrev pub no_routes : RouteSet
no_routes = record { members = replicate 64 false }

abbrev pub contains : RouteSet → ℕ → Bool
contains s r = slice_index_or s.members r false

abbrev pub with_route : RouteSet → ℕ → RouteSet
with_route s r = record { members = slice_set s.members r true }

abbrev pub without_route : RouteSet → ℕ → RouteSet
without_route s r = record { members = slice_set s.members r false }

abbrev pub is_empty : RouteSet → Bool
is_empty s = list_all not s.members
