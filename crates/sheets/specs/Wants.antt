-- What a route wants of each element.
use Rattle.std.specs.Prelude.{ℕ, Bool, false, cond, ◌&&◌, List, length, map, Some, None, Option, ◌==◌, nat_lt, slice_index, slice_index_or}
use Rattle.std.specs.List.{range_with_len}
use Rattle.layout.specs.declared.element.Element.{Element}
use Rattle.layout.specs.declared.kind.Kind.{Kind}
use Rattle.layout.specs.declared.kind.Kind.TheVariants as kind
use Rattle.layout.specs.declared.position.Position.{Position}
use Rattle.layout.specs.declared.position.Position.TheVariants as position
use Rattle.layout.specs.declared.route.Route.{Route}
use Rattle.layout.specs.Ports.{at}
use Rattle.layout.specs.Positions.{other}
use Rattle.layout.specs.Uses.{path_of}
use Rattle.flank.specs.declared.answers.Mark.{Mark}
use Rattle.flank.specs.declared.flanks.Flank.{Flank}
use Rattle.flank.specs.Used.{used_table}
use Rattle.flank.specs.Flanks.{flank_of}
use Rattle.flank.specs.Search.{unmarked}
use Rattle.flank.specs.Protection.{route_marks}
use Rattle.sheets.specs.declared.sheet.Want.{Want}

-- The position in which an element is requested; no element of a checked plan is requested in both.
abbrev pub requested : Mark → Option Position
requested m = cond m.plus (Some position.Plus) (cond m.minus (Some position.Minus) None)

-- A derailer that the route uses is needed off.
abbrev pub derailer_need : Kind → Bool → Option Position
derailer_need kind.Track used = None
derailer_need kind.Point used = None
derailer_need kind.Derailer used = cond used (Some position.Minus) None
derailer_need kind.Signal used = None
derailer_need kind.PlanEnd used = None

-- A point that the route uses is needed in the position of the leg that is not its flank.
abbrev pub passed_need : Option Flank → Option Position → Option Position
passed_need None need = need
passed_need (Some f) need = Some (other f.leg)

-- The start signal is needed in use as a start.
abbrev pub starts_at : List ℕ → ℕ → Bool
starts_at path e = nat_lt 0 (length path) && slice_index path 0 == e

-- The position in which a route itself needs an element.
abbrev pub need_at : List Element → Route → Bool → ℕ → Option Position
need_at es r used e =
    cond (starts_at (path_of r) e) (Some position.Minus) (passed_need (flank_of es r e) (derailer_need (at es e).kind used))

-- What a route wants of an element.
unfoldable pub want_at : List Element → Route → ℕ → Want
want_at es r e = record {
  need = need_at es r (slice_index_or (used_table es r) e false) e;
  request = requested (slice_index_or (route_marks es r) e unmarked);
}

abbrev pub no_want : Want
no_want = record { need = None; request = None }

-- What a route wants, by element.
unfoldable pub wants_of : List Element → Route → List Want
wants_of es r = map (want_at es r) (range_with_len 0 96)
