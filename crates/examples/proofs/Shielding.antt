-- What is shielded on a plan that was read is what its definitions compute.
use Rattle.std.proofs.Common.{◌≡◌, ℕ, ◌<◌, true, List, Ok, Some, Option, length, sym, ap, subst}
use Rattle.std.specs.Option.{option_map_or}
use Rattle.bounded.specs.Lists.{listed}
use Rattle.flank.specs.declared.answers.Branch.{Branch}
use Rattle.flank.specs.declared.answers.Request.{Request}
use Rattle.flank.specs.Protection.{request, branch, requests_of, branches_of}
use Rattle.layout.specs.declared.element.Join.{Join}
use Rattle.plan.specs.Plans.{reading, is_sound}
use Rattle.plan.specs.Sound.{SoundPlan}
use Rattle.plan.proofs.PlansExact.{checks_exact}
use Rattle.walks.specs.Exactly.{In}
use Rattle.walks.proofs.Exactly.{requests_exact, branches_exact}
use Rattle.examples.specs.SmallStations.{drawing_of, elements_in, route_in, Shielded}

pub shielded : (bs : List ℕ) (requests : List Request) (branches : List Branch) → reading bs ≡ Ok (drawing_of bs) → is_sound (drawing_of bs) ≡ true
    → 0 < length (listed (drawing_of bs).routes) → requests_of (elements_in bs) (route_in bs) ≡ requests → branches_of (elements_in bs) (route_in bs) ≡ branches
    → Shielded bs requests branches
shielded bs requests branches read passed some asked open_ends =
    let plan : SoundPlan (drawing_of bs) = (checks_exact (drawing_of bs)).0 passed in
    record {
      read = read;
      sound = plan;
      requested = λ e p.
          let exact = requests_exact (elements_in bs) (route_in bs) plan.elements plan.few_elements (plan.paths 0 some) (plan.overlaps 0 some) e p in
          (λ q. subst (λ (rs : List Request). In (request e p) rs) asked (exact.0 q), λ i. exact.1 (subst (λ (rs : List Request). In (request e p) rs) (sym asked) i));
      ends_open = λ u l.
          let exact = branches_exact (elements_in bs) (route_in bs) plan.elements plan.few_elements (plan.paths 0 some) (plan.overlaps 0 some) u l in
          (λ q. subst (λ (bs : List Branch). In (branch u l) bs) open_ends (exact.0 q), λ i. exact.1 (subst (λ (bs : List Branch). In (branch u l) bs) (sym open_ends) i));
    }

-- joins that are the same lead to the same element
pub far_element : {j k : Join} → Some j ≡ Some k → j.element ≡ k.element
far_element same = ap (λ (o : Option Join). option_map_or (λ (j : Join). j.element) o 0) same
