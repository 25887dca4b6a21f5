-- The elements of a drawing by number, and what their ports are joined to.
use Rattle.std.specs.Prelude.{ℕ, cond, List, None, Option, nat_lt, slice_index_or}
use Rattle.layout.specs.declared.element.Element.{Element}
use Rattle.layout.specs.declared.element.Join.{Join}
use Rattle.layout.specs.Drawings.{no_element}

-- The element with a number, one with no field where there is none.
abbrev pub at : List Element → ℕ → Element
at es e = slice_index_or es e no_element

-- What a port of an element is joined to.
abbrev pub join_of : Element → ℕ → Option Join
join_of e p = cond (nat_lt p 3) (slice_index_or e.joins p None) None

-- What the port p of the element e is joined to.
abbrev pub joined : List Element → ℕ → ℕ → Option Join
joined es e p = join_of (at es e) p
