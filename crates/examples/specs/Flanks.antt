-- The worked flanks: what the definitions say of the flanks of a route.
use Rattle.std.specs.Prelude.{◌≡◌, List, [], ◌∷◌, Some, None, Ok, Err, Option, Result}
use Rattle.faults.specs.declared.fault.Fault.{Fault}
use Rattle.bounded.specs.Lists.{listed}
use Rattle.layout.specs.declared.drawing.Drawing.{Drawing}
use Rattle.layout.specs.declared.position.Position.TheVariants as position
use Rattle.flank.specs.declared.answers.Request.{Request}
use Rattle.flank.specs.declared.answers.Branch.{Branch}
use Rattle.flank.specs.Protection.{request, branch, requests_of, branches_of}
use Rattle.plan.specs.Flanks.{route_of}
use Rattle.plan.specs.Plans.{reading}
use Rattle.examples.specs.Plans.{k, k_turned, k_shunting}

-- What the route 0 of an accepted plan requests, and its open branches.
abbrev pub flanked : Result Drawing Fault → Option (List Request × List Branch)
flanked (Ok drawing) = Some (requests_of (listed drawing.elements) (route_of drawing 0), branches_of (listed drawing.elements) (route_of drawing 0))
flanked (Err fault) = None

-- The route of K requests 5 in plus, and no branch is open. With point 5 turned it is met at its toe: the train route requests
-- nothing, and the shunting route has the open branch from 2 to 5.
abbrev pub WorkedFlanks : Type 0
WorkedFlanks =
    (flanked (reading k) ≡ Some (request 5 position.Plus ∷ [], []))
    × (flanked (reading k_turned) ≡ Some ([], []))
    × (flanked (reading k_shunting) ≡ Some ([], branch 2 5 ∷ []))
