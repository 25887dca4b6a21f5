-- Small stations, each drawn for one rule: what the words of the subject say of them.
use Rattle.std.specs.Prelude.{◌≡◌, ℕ, List, [], ◌∷◌, Ok}
use Rattle.flank.specs.declared.answers.Branch.{Branch}
use Rattle.flank.specs.declared.answers.Request.{Request}
use Rattle.flank.specs.Protection.{request, branch}
use Rattle.layout.specs.declared.drawing.Drawing.{Drawing}
use Rattle.layout.specs.declared.element.Element.{Element}
use Rattle.layout.specs.declared.position.Position.{Position}
use Rattle.layout.specs.declared.position.Position.TheVariants as position
use Rattle.layout.specs.declared.route.Route.{Route}
use Rattle.layout.specs.Uses.{UsesInPath, UsesInOverlap, UsesSectionInPath, UsesSectionInOverlap, Flank}
use Rattle.plan.specs.Flanks.{route_of}
use Rattle.plan.specs.Plans.{reading, drawing_after, fresh_drawing}
use Rattle.plan.specs.Sound.{SoundPlan}
use Rattle.sheetlaws.specs.Ends.{ProvesLamp}
use Rattle.sheetlaws.specs.Needed.{Needs}
use Rattle.sheetlaws.specs.Routes.{Exactly, elements_of}
use Rattle.walks.specs.Exactly.{In}
use Rattle.walks.specs.Walks.{Behind, Requested, EndsOpen}
use Rattle.examples.specs.Plans.{k, k_turned, k_shunting, two_ends, back_to_route, own_last_signal, met_twice, last_track_beyond, back_beyond_toe, three_points, both_ways_dual, in_overlap}

-- The drawing that a plan has after it read some bytes, where it was fresh.
abbrev pub drawing_of : List ℕ → Drawing
drawing_of bs = drawing_after (reading bs) fresh_drawing

abbrev pub elements_in : List ℕ → List Element
elements_in bs = elements_of (drawing_of bs)

abbrev pub route_in : List ℕ → Route
route_in bs = route_of (drawing_of bs) 0

-- The bytes are read into a sound plan. Walks out of the flanks of its route 0 come to exactly the listed elements as their first able
-- ones, in the listed positions, and end open exactly at the listed branches.
pub record Shielded (bs : List ℕ) (requests : List Request) (branches : List Branch) : Type 0 where
  pub read : reading bs ≡ Ok (drawing_of bs)
  pub sound : SoundPlan (drawing_of bs)
  pub requested : (e : ℕ) (p : Position) → Exactly (Requested (elements_in bs) (route_in bs) e p) (In (request e p) requests)
  pub ends_open : (u l : ℕ) → Exactly (EndsOpen (elements_in bs) (route_in bs) u l) (In (branch u l) branches)

-- What the route of K uses and needs: point 2 in its path, in plus, with its minus leg as a flank, signal 1 as its start, and the lamp of
-- signal 3 at its end.
pub record UsesOfK : Type 0 where
  pub uses : UsesInPath (elements_in k) (route_in k) 2
  pub section : UsesSectionInPath (elements_in k) (route_in k) 0
  pub flank : Flank (elements_in k) (route_in k) 2 position.Minus 3
  pub passes : Needs (elements_in k) (route_in k) 2 position.Plus
  pub starts : Needs (elements_in k) (route_in k) 1 position.Minus
  pub lamp : ProvesLamp (drawing_of k) 0 3

-- What routes with an overlap use and need there: derailer 3, off; point 3, in plus, with its minus leg as a flank.
pub record UsesOfOverlap : Type 0 where
  pub uses : UsesInOverlap (elements_in back_to_route) (route_in back_to_route) 3
  pub section : UsesSectionInOverlap (elements_in back_to_route) (route_in back_to_route) 3
  pub derails : Needs (elements_in back_to_route) (route_in back_to_route) 3 position.Minus
  pub flank : Flank (elements_in in_overlap) (route_in in_overlap) 3 position.Minus 1
  pub passes : Needs (elements_in in_overlap) (route_in in_overlap) 3 position.Plus

-- The bytes of two plan ends are those of a fresh plan. K requests point 5 in plus; turned, it requests nothing, and as a shunting route it
-- has an open branch. A derailer that the route uses is not requested. The route's own last signal is. A point met at a leg ends a walk where
-- the route lies beyond its toe, also behind a marked signal, but not where the track lies there at which the path ends; met at its toe, it
-- counts. A walk out of the path of a train route ends open at the third point that counts, one out of its overlap at the first. A point with the
-- dual field that is met at both legs is requested in the position that it prefers.
pub record WorkedStations : Type 0 where
  pub fresh : reading two_ends ≡ Ok fresh_drawing
  pub on_k : Shielded k (request 5 position.Plus ∷ []) []
  pub turned : Shielded k_turned [] []
  pub shunting : Shielded k_shunting [] (branch 2 5 ∷ [])
  pub used_first : Shielded back_to_route [] []
  pub own_signal : Shielded own_last_signal (request 2 position.Plus ∷ []) []
  pub twice_met : Shielded met_twice [] (branch 2 4 ∷ [])
  pub track_beyond : Shielded last_track_beyond (request 3 position.Plus ∷ []) []
  pub signal_beyond : Shielded back_beyond_toe [] []
  pub third_point : Shielded three_points [] (branch 1 7 ∷ [])
  pub preferred : Shielded both_ways_dual (request 4 position.Plus ∷ []) []
  pub first_point : Shielded in_overlap [] (branch 3 6 ∷ [])
  pub behind : Behind (elements_in back_beyond_toe) (route_in back_beyond_toe) 4
  pub uses_of_k : UsesOfK
  pub uses_of_overlap : UsesOfOverlap
