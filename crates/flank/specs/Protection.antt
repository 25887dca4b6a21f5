-- What a route requests to shield its flanks, its open branches, and the lists that are filled with them.
use Rattle.std.specs.Prelude.{ℕ, zero, suc, ◌+◌, Bool, cond, ◌&&◌, List, [], ◌∷◌, ◌++◌, length, drop, replicate, Some, None, Option, nat_le, slice_index_or, slice_set}
use Rattle.layout.specs.declared.element.Element.{Element}
use Rattle.layout.specs.declared.position.Position.{Position}
use Rattle.layout.specs.declared.position.Position.TheVariants as position
use Rattle.layout.specs.declared.route.Route.{Route}
use Rattle.layout.specs.Ways.{port}
use Rattle.layout.specs.Uses.{leg}
use Rattle.flank.specs.declared.answers.Mark.{Mark}
use Rattle.flank.specs.declared.answers.Request.{Request}
use Rattle.flank.specs.declared.answers.Branch.{Branch}
use Rattle.flank.specs.declared.flanks.Flank.{Flank}
use Rattle.flank.specs.Signals.{far_end}
use Rattle.flank.specs.Used.{used_table}
use Rattle.flank.specs.Search.{walk, marks, unmarked}
use Rattle.flank.specs.Flanks.{flank_of}

-- A table with what the walks out of a flank of the element e find.
abbrev pub flank_marks : List Element → List Bool → ℕ → Option Flank → List Mark → List Mark
flank_marks es used e None t = t
flank_marks es used e (Some f) t = marks (walk f.spare es used (far_end es (port e (leg f.leg)))) t

-- A table with nothing marked.
unfoldable pub no_marks : List Mark
no_marks = replicate 96 unmarked

-- What the walks out of the flanks of the first n elements find.
unfoldable pub marks_below : List Element → Route → ℕ → List Mark
marks_below es r zero = no_marks
marks_below es r (suc e) = flank_marks es (used_table es r) e (flank_of es r e) (marks_below es r e)

-- What the walks out of all flanks of a route find.
abbrev pub route_marks : List Element → Route → List Mark
route_marks es r = marks_below es r 96

-- A request, and an open branch.
abbrev pub request : ℕ → Position → Request
request e p = record { element = e; position = p }

abbrev pub branch : ℕ → ℕ → Branch
branch u l = record { from = u; last = l }

-- The requests of one element: plus before minus.
abbrev pub requests_at : ℕ → Mark → List Request
requests_at e m = cond m.plus (request e position.Plus ∷ []) [] ++ cond m.minus (request e position.Minus ∷ []) []

-- The requests at the first n places of a table, by element.
unfoldable pub requests_in : List Mark → ℕ → List Request
requests_in t zero = []
requests_in t (suc e) = requests_in t e ++ requests_at e (slice_index_or t e unmarked)

-- The open branch from u to one element, if a walk ends open there.
abbrev pub branch_at : ℕ → ℕ → Mark → List Branch
branch_at u l m = cond m.open_end (branch u l ∷ []) []

-- The open branches of the flank of u at the first n places of a table, by element.
unfoldable pub branches_in : ℕ → List Mark → ℕ → List Branch
branches_in u t zero = []
branches_in u t (suc l) = branches_in u t l ++ branch_at u l (slice_index_or t l unmarked)

-- The table of the walks out of the flank of u alone.
abbrev pub marks_of : List Element → Route → ℕ → List Mark
marks_of es r u = flank_marks es (used_table es r) u (flank_of es r u) no_marks

-- The open branches of the flanks of the first n elements, by used point and last point.
unfoldable pub branches_below : List Element → Route → ℕ → List Branch
branches_below es r zero = []
branches_below es r (suc u) = branches_below es r u ++ branches_in u (marks_of es r u) 96

-- What a route requests, by element.
abbrev pub requests_of : List Element → Route → List Request
requests_of es r = requests_in (route_marks es r) 96

-- The open branches of a route, by used point and last point.
abbrev pub branches_of : List Element → Route → List Branch
branches_of es r = branches_below es r 96

-- A list of the caller with some answers in its first places.
abbrev pub filled : {A : Type 0} → List A → List A → List A
filled answers list = answers ++ drop (length answers) list

-- Whether two lists of the caller have room for an answer to each request and for the open branches.
abbrev pub have_room : {A : Type 0} → List Element → Route → List A → List Branch → Bool
have_room es r list branches =
    nat_le (length (requests_of es r)) (length list) && nat_le (length (branches_of es r)) (length branches)

-- The numbers of requests and of open branches; none where a list is too short.
abbrev pub counts_listed : {A : Type 0} → List Element → Route → List A → List Branch → Option (ℕ × ℕ)
counts_listed es r list branches =
    cond (have_room es r list branches) (Some (length (requests_of es r), length (branches_of es r))) None

-- A list of the caller afterwards: filled where there is room, else as it was.
abbrev pub list_filled : {A : Type 0} → Bool → List A → List A → List A
list_filled room answers list = cond room (filled answers list) list

-- The lists of the caller afterwards, where the answers are the requests themselves: filled, or as they were where one is too short.
abbrev pub requests_told : List Element → Route → List Request → List Branch → List Request
requests_told es r requests branches = list_filled (have_room es r requests branches) (requests_of es r) requests

abbrev pub branches_told : List Element → Route → List Request → List Branch → List Branch
branches_told es r requests branches = list_filled (have_room es r requests branches) (branches_of es r) branches

-- A list with some answers written into it from the place n on, as far as it has room.
abbrev pub put_at : {A : Type 0} → List A → ℕ → List A → List A
put_at [] n list = list
put_at (a ∷ answers) n list = put_at answers (n + 1) (slice_set list n a)
