-- What a station answers of the protection of a route.
use Rattle.std.specs.Prelude.{ℕ, List, Result}
use Rattle.bounded.specs.Lists.{listed}
use Rattle.layout.specs.declared.drawing.Drawing.{Drawing}
use Rattle.flank.specs.declared.answers.Branch.{Branch}
use Rattle.flank.specs.Protection.{counts_listed}
use Rattle.refusals.specs.declared.refusal.Refusal.{Refusal}
use Rattle.plan.specs.Flanks.{counts_answer, list_answer}
use Rattle.holds.specs.declared.interlocking.Interlocking.{Interlocking}
use Rattle.protection.specs.declared.shield.Shield.{Shield}
use Rattle.protection.specs.Shields.{shields_told, branches_told}

-- The numbers of requests and of open branches; refused where there is no such route, then where a list is too short.
abbrev pub protection_answer : Drawing → ℕ → List Shield → List Branch → Result (ℕ × ℕ) Refusal
protection_answer d r shields branches = counts_answer (λ drawn. counts_listed (listed d.elements) drawn shields branches) d r

-- The two lists afterwards: filled from the front, or as they were where the call is refused.
abbrev pub protection_shields : Drawing → Interlocking → ℕ → List Shield → List Branch → List Shield
protection_shields d i r shields branches = list_answer (λ drawn. shields_told (listed d.elements) drawn i r shields branches) d r shields

abbrev pub protection_branches : Drawing → ℕ → List Shield → List Branch → List Branch
protection_branches d r shields branches = list_answer (λ drawn. branches_told (listed d.elements) drawn shields branches) d r branches
