-- The theorem that two routes with one start use one same section.
use Rattle.std.specs.Prelude.{◌≡◌, ℕ, ◌<◌, ◌≢◌}
use Rattle.layout.specs.declared.drawing.Drawing.{Drawing}
use Rattle.layout.specs.Uses.{UsesSectionInPath}
use Rattle.plan.specs.Flanks.{route_of}
use Rattle.plan.specs.Sound.{SoundPlan}
use Rattle.sheetlaws.specs.Routes.{elements_of, HasRoute}
use Rattle.sheetlaws.specs.Ends.{first_element, last_element}

-- Two routes whose paths have the same first element use one same section in their paths,
-- and neither begins with the last element of the other.
abbrev pub OneStart : Type 0
OneStart =
    (d : Drawing) → SoundPlan d → (i j : ℕ) → HasRoute d i → HasRoute d j → first_element d i ≡ first_element d j
    → ((s : ℕ) × (s < 64) × UsesSectionInPath (elements_of d) (route_of d i) s × UsesSectionInPath (elements_of d) (route_of d j) s)
    × (first_element d i ≢ last_element d j) × (first_element d j ≢ last_element d i)
