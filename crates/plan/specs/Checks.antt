-- The checks of a drawing in their order, to the first fault.
use Rattle.std.specs.Prelude.{◌≡◌, ℕ, zero, suc, ◌+◌, Bool, cond, not, List, length, Some, None, Option, slice_index_or}
use Rattle.std.specs.Option.{option_or}
use denote.Ref.{Bor}
use Rattle.bounded.specs.Lists.{listed}
use Rattle.faults.specs.declared.fault.Fault.{Fault}
use Rattle.faults.specs.declared.fault.Cause.{Cause}
use Rattle.faults.specs.declared.fault.Cause.TheVariants as cause
use Rattle.layout.specs.declared.drawing.Drawing.{Drawing}
use Rattle.layout.specs.declared.element.Element.{Element}
use Rattle.layout.specs.declared.route.Route.{Route}
use Rattle.layout.specs.Drawings.{no_route}
use Rattle.layout.specs.Ports.{at}
use Rattle.paths.specs.Paths.{has_path}
use Rattle.paths.specs.Overlaps.{is_overlap_allowed}
use Rattle.planbytes.specs.Bytes.{fault}
use Rattle.plan.specs.RequestTests.{asks_both_ways}
use Rattle.plan.specs.ElementTests.{has_its_fields, are_joins_sound, is_entry_unmarked}

-- The first fault among those of the n numbers from i on.
abbrev pub first_fault : (ℕ → Option Fault) → ℕ → ℕ → Option Fault
first_fault faulty zero i = None
first_fault faulty (suc n) i = option_or (faulty i) (first_fault faulty n (i + 1))

-- The fault of a place at which something is not met.
abbrev pub unmet : Bool → Cause → ℕ → Option Fault
unmet met c place = cond met None (Some (fault c place))

-- A demand on an element, by its number and what it is.
abbrev pub Demand : Type 0
Demand = ℕ → Element → Bool

-- What a closure answers of elements is whether they meet a demand.
abbrev pub AnswersBy : (ℕ → Bor Element → Bool → Type 0) → Demand → Type 0
AnswersBy answers demand = (e : ℕ) (element : Bor Element) (met : Bool) → answers e element met → met ≡ demand e element.now

-- The fault of an element that does not meet a demand.
abbrev pub element_fault : List Element → Demand → Cause → ℕ → Option Fault
element_fault es demand c e = unmet (demand e (at es e)) c e

-- One demand over all elements in turn.
unfoldable pub elements_fault : List Element → Demand → Cause → Option Fault
elements_fault es demand c = first_fault (element_fault es demand c) (length es) 0

-- An element has the fields of its kind, and no other.
abbrev pub fields_fault : List Element → Option Fault
fields_fault es = elements_fault es (λ _ e. has_its_fields e) cause.Fields

-- Each join goes to a port that another element of the drawing has, and is joined back; no two of an element go to one element.
abbrev pub joins_fault : List Element → Option Fault
joins_fault es = elements_fault es (λ e _. are_joins_sound es e) cause.Join

-- An entry signal is not requested at a flank.
abbrev pub entries_fault : List Element → Option Fault
entries_fault es = elements_fault es (λ _ e. is_entry_unmarked e) cause.EntryMarked

-- The faults of a route in their order.
abbrev pub route_fault : List Element → Route → ℕ → Option Fault
route_fault es r i =
    option_or (unmet (has_path es r) cause.Path i)
    (option_or (unmet (is_overlap_allowed es r) cause.Overlap i) (unmet (not (asks_both_ways es r)) cause.BothWays i))

abbrev pub route_fault_at : List Element → List Route → ℕ → Option Fault
route_fault_at es rs i = route_fault es (slice_index_or rs i no_route) i

-- All routes in turn.
unfoldable pub routes_fault : List Element → List Route → Option Fault
routes_fault es rs = first_fault (route_fault_at es rs) (length rs) 0

-- Each demand over all elements, then all routes.
abbrev pub content_fault : List Element → List Route → Option Fault
content_fault es rs =
    option_or (fields_fault es) (option_or (joins_fault es) (option_or (entries_fault es) (routes_fault es rs)))

abbrev pub drawing_fault : Drawing → Option Fault
drawing_fault d = content_fault (listed d.elements) (listed d.routes)
