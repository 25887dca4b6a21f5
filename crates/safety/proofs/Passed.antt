-- Every point and derailer that a route uses is passed by it in some position, and its sheet needs it there.
use Rattle.std.proofs.Common.{◌≡◌, ℕ, suc, ◌<◌, true, ◌≢◌, ◌⊎◌, List, [], length, Some, sym, refl, ap, ◌∙◌, subst, inl, inr, ⊎_elim, arith}
use Rattle.layout.specs.declared.drawing.Drawing.{Drawing}
use Rattle.layout.specs.declared.element.Element.{Element}
use Rattle.layout.specs.declared.kind.Kind.{Kind}
use Rattle.layout.specs.declared.kind.Kind.TheVariants as kind
use Rattle.layout.specs.declared.position.Position.{Position}
use Rattle.layout.specs.declared.position.Position.TheVariants as position
use Rattle.layout.specs.declared.route.Route.{Route}
use Rattle.layout.specs.Ports.{at}
use Rattle.layout.specs.Sound.{SoundElements}
use Rattle.layout.specs.Ways.{place, Runs}
use Rattle.layout.specs.Uses.{path_of, overlap_of, way_beyond, Between, UsesInPath, UsesInOverlap, Uses, PassesBy, PassesIn}
use Rattle.paths.specs.Sound.{Within, last, SoundOverlap}
use Rattle.walks.proofs.Flanks.{SoundRoute, sound_route, beyond_within}
use Rattle.walks.proofs.Exactly.{overlap_within}
use Rattle.sheets.specs.declared.sheet.RouteSheet.{RouteSheet}
use Rattle.sheets.specs.Reading.{route_sheet, need_of, element_of, moves}
use Rattle.sheets.specs.Sheets.{sheets_of}
use Rattle.plan.specs.Flanks.{route_of}
use Rattle.plan.specs.Sound.{SoundPlan}
use Rattle.sheetlaws.specs.Routes.{elements_of, HasRoute}
use Rattle.sheetlaws.specs.Needed.{Needs, passes_in_path, passes_in_overlap, derails}
use Rattle.sheetlaws.proofs.OtherLeg.{either_leg}
use Rattle.sheetlaws.proofs.NeedsExact.{needs_exact}
use Rattle.sheetlaws.proofs.SectionsExact.{used_known}
use Rattle.sheetlaws.proofs.ElementsExact.{elements_exact}
use Rattle.safety.specs.Words.{Moved, point, derailer, Passes, in_path, in_overlap, over_derailer}
use Rattle.safety.proofs.PlanLawful.{same_sheet}

-- a way that runs passes each point between its ends by one of its legs
module _ (es : List Element) (sound : SoundElements es) (way : List ℕ) (within : Within es way) (runs : Runs es way) where
  passed_in : (e k : ℕ) → Between way e k → (at es e).kind ≡ kind.Point → (p : Position) × PassesIn es way e p
  passed_in e k b is =
      let there : (at es (place way (suc k))).kind ≡ kind.Point = ap (λ (n : ℕ). (at es n).kind) b.is ∙ is in
      ⊎_elim
      (λ (l : PassesBy es way k 1). (position.Plus, record { at_place = k; between = b; point = is; by_leg = l }))
      (λ (l : PassesBy es way k 2). (position.Minus, record { at_place = k; between = b; point = is; by_leg = l }))
      (either_leg es sound way within runs k b.within there)

module _ (es : List Element) (sound : SoundElements es) (r : Route) (route : SoundRoute es r) (e : ℕ) (is : (at es e).kind ≡ kind.Point) where
  path_passes : UsesInPath es r e → (p : Position) × Passes es r e p
  path_passes u =
      let way = passed_in es sound (path_of r) route.path.within route.path.runs e u.at_place u.between is in
      (way.0, in_path way.1)

  overlap_passes : UsesInOverlap es r e → (p : Position) × Passes es r e p
  overlap_passes u = go route.overlap
    where
      go : (overlap_of r ≡ []) ⊎ SoundOverlap es (path_of r) (overlap_of r) → (p : Position) × Passes es r e p
      go (inl none) = absurd (omega (arith, u.within, ap length none))
      go (inr o) =
          let k = u.at_place in
          let not_last : k ≢ last (overlap_of r) =
          λ end. o.ends (ap (λ (n : ℕ). (at es (place (overlap_of r) n)).kind) (sym end) ∙ (ap (λ (n : ℕ). (at es n).kind) u.is ∙ is)) in
          let room = u.within in
          let more : suc (suc k) < length (way_beyond r) = omega (arith, not_last) in
          let way =
          passed_in es sound (way_beyond r) (beyond_within es (path_of r) (overlap_of r) route.path.within o) o.runs e k
          (record { is = u.is; within = more }) is in
          (way.0, in_overlap way.1)

pub used_passed : (es : List Element) → SoundElements es → (r : Route) → SoundRoute es r → (e : ℕ) → Uses es r e → Moved es e → (p : Position) × Passes es r e p
used_passed es sound r route e u (derailer is) = (position.Minus, over_derailer u is)
used_passed es sound r route e (inl u) (point is) = path_passes es sound r route e is u
used_passed es sound r route e (inr u) (point is) = overlap_passes es sound r route e is u

passes_needs : (es : List Element) (r : Route) (e : ℕ) {p : Position} → Passes es r e p → Needs es r e p
passes_needs es r e (in_path f) = passes_in_path f
passes_needs es r e (in_overlap f) = passes_in_overlap f
passes_needs es r e (over_derailer u k) = derails u k

pub moved_moves : (es : List Element) (e : ℕ) → Moved es e → moves (at es e).kind ≡ true
moved_moves es e (point is) = ap moves is
moved_moves es e (derailer is) = ap moves is

pub moves_moved : (es : List Element) (e : ℕ) → moves (at es e).kind ≡ true → Moved es e
moves_moved es e m = go (at es e).kind refl m
  where
    go : (k : Kind) → (at es e).kind ≡ k → moves k ≡ true → Moved es e
    go kind.Point is t = point is
    go kind.Derailer is t = derailer is
    go kind.Track is t = cc
    go kind.Signal is t = cc
    go kind.PlanEnd is t = cc

module _ (d : Drawing) (sound : SoundPlan d) where
  pub used_low : (a e : ℕ) → HasRoute d a → Uses (elements_of d) (route_of d a) e → e < 96
  used_low a e h u =
      let es : List Element = elements_of d in
      let r : Route = route_of d a in
      let route : SoundRoute es r = sound_route es r (sound.paths a h) (sound.overlaps a h) in
      let few = sound.few_elements in
      let low : e < length es = used_known es r route.path.within (overlap_within es r sound.elements sound.few_elements route) e u in
      omega arith

  -- the kind of an element, as its sheet tells it
  pub kind_told : (e : ℕ) → e < 96 → (element_of (sheets_of d) e).kind ≡ (at (elements_of d) e).kind
  kind_told e low = (elements_exact d sound e low).0

  pub need_told : (a e : ℕ) (p : Position) → HasRoute d a → e < 96 → Passes (elements_of d) (route_of d a) e p
      → need_of (route_sheet (sheets_of d) a) e ≡ Some p
  need_told a e p h low f =
      subst (λ (s : RouteSheet). need_of s e ≡ Some p) (sym (same_sheet d sound a h))
      ((needs_exact d sound a h e low p).1 (passes_needs (elements_of d) (route_of d a) e f))
