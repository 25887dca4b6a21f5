-- What a plan answers of the flanks of a route.
use Rattle.std.specs.Prelude.{ℕ, cond, List, length, Ok, Err, Option, Result, nat_lt, slice_index_or}
use Rattle.std.specs.Option.{ok_or}
use Rattle.bounded.specs.Lists.{listed}
use Rattle.layout.specs.declared.drawing.Drawing.{Drawing}
use Rattle.layout.specs.declared.route.Route.{Route}
use Rattle.layout.specs.Drawings.{no_route}
use Rattle.flank.specs.declared.answers.Request.{Request}
use Rattle.flank.specs.declared.answers.Branch.{Branch}
use Rattle.flank.specs.Protection.{counts_listed, requests_told, branches_told}
use Rattle.refusals.specs.declared.refusal.Refusal.{Refusal}
use Rattle.refusals.specs.declared.refusal.Refusal.TheVariants as refusal

-- The route with a number.
abbrev pub route_of : Drawing → ℕ → Route
route_of d i = slice_index_or (listed d.routes) i no_route

-- The route with a number, or the refusal where there is none.
abbrev pub route_answer : Drawing → ℕ → Result Route Refusal
route_answer d i = cond (nat_lt i (length (listed d.routes))) (Ok (route_of d i)) (Err refusal.NoSuchRoute)

-- How many things two lists are to hold that are told of a route; refused where there is no such route, then where a list is too short.
abbrev pub counts_answer : (Route → Option (ℕ × ℕ)) → Drawing → ℕ → Result (ℕ × ℕ) Refusal
counts_answer counts d i = cond (nat_lt i (length (listed d.routes))) (ok_or (counts (route_of d i)) refusal.ListTooShort) (Err refusal.NoSuchRoute)

-- A list afterwards in which a route is told of; where there is no such route, it is as it was.
abbrev pub list_answer : {X : Type 0} → (Route → List X) → Drawing → ℕ → List X → List X
list_answer told d i list = cond (nat_lt i (length (listed d.routes))) (told (route_of d i)) list

-- The numbers of requests and of open branches.
abbrev pub flanks_answer : Drawing → ℕ → List Request → List Branch → Result (ℕ × ℕ) Refusal
flanks_answer d i requests branches = counts_answer (λ r. counts_listed (listed d.elements) r requests branches) d i

-- The two lists afterwards: filled from the front, or as they were where the call is refused.
abbrev pub flanks_requests : Drawing → ℕ → List Request → List Branch → List Request
flanks_requests d i requests branches = list_answer (λ r. requests_told (listed d.elements) r requests branches) d i requests

abbrev pub flanks_branches : Drawing → ℕ → List Request → List Branch → List Branch
flanks_branches d i requests branches = list_answer (λ r. branches_told (listed d.elements) r requests branches) d i branches
