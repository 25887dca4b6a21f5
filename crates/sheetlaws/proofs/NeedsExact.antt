-- The sheet of a route tells exactly the elements that the route itself needs, with their positions.
use Rattle.std.proofs.Common.{◌≡◌, ℕ, ◌<◌, ◌≤◌, Bool, true, false, cond, ltb, ◌≢◌, ◌⊎◌, List, [], ◌∷◌, length, get_or, Some, None, Option, sym, refl, ap, ◌∙◌, subst, inl, inr, arith}
use Rattle.std.proofs.lemmas.Bool.{and_parts, and_from, eqb-true, eq-eqb, lt-ltb, false_from_ne_true}
use Rattle.layout.specs.declared.element.Element.{Element}
use Rattle.layout.specs.declared.kind.Kind.{Kind}
use Rattle.layout.specs.declared.kind.Kind.TheVariants as kind
use Rattle.layout.specs.declared.position.Position.{Position}
use Rattle.layout.specs.declared.position.Position.TheVariants as position
use Rattle.layout.specs.declared.route.Route.{Route}
use Rattle.layout.specs.declared.route.RouteClass.{RouteClass}
use Rattle.layout.specs.Kinds.{is_point}
use Rattle.layout.specs.Ports.{at}
use Rattle.layout.specs.Positions.{other}
use Rattle.layout.specs.Sound.{SoundElements}
use Rattle.layout.specs.Ways.{place}
use Rattle.layout.specs.Uses.{path_of, overlap_of, way_beyond, PassesIn, FlankOf, Flank, in_path, in_overlap}
use Rattle.paths.specs.Sound.{SoundOverlap}
use Rattle.flank.specs.declared.flanks.Flank.{Flank as Leg}
use Rattle.flank.specs.Flanks.{flank_over, flank_of}
use Rattle.flank.specs.Used.{used_table}
use Rattle.walks.proofs.Used.{from_table, to_table}
use Rattle.walks.proofs.Flanks.{SoundRoute, sound_route, beyond_within, flank_left, left_flank}
use Rattle.walks.proofs.Exactly.{overlap_within}
use Rattle.sheets.specs.declared.sheet.Want.{Want}
use Rattle.sheets.specs.Wants.{derailer_need, passed_need, starts_at, need_at, want_at}
use Rattle.plan.specs.Flanks.{route_of}
use Rattle.sheetlaws.specs.Routes.{elements_of}
use Rattle.sheetlaws.specs.Requests.{want_of}
use Rattle.sheetlaws.specs.Needed.{Needs, starts, passes_in_path, passes_in_overlap, derails, NeedsExact}
use Rattle.sheetlaws.proofs.RequestsExact.{want_is}
use Rattle.sheetlaws.proofs.OtherLeg.{twice_other, passes_flank, flank_passes}

-- only a used derailer is needed off
moved_sound : (k : Kind) (used : Bool) (p : Position) → derailer_need k used ≡ Some p → (k ≡ kind.Derailer) × (used ≡ true) × (position.Minus ≡ p)
moved_sound kind.Track used p e = cc
moved_sound kind.Point used p e = cc
moved_sound kind.Derailer true p e = (refl, refl, (cc))
moved_sound kind.Derailer false p e = cc
moved_sound kind.Signal used p e = cc
moved_sound kind.PlanEnd used p e = cc

-- only a point has a flank
no_flank : (es : List Element) (c : RouteClass) (path overlap : List ℕ) (e : ℕ) → is_point (at es e).kind ≡ false → flank_over es c path overlap e ≡ None
unfolding flank_over
no_flank es c [] overlap e i = refl
no_flank es c (x ∷ xs) overlap e i = rw (i, flank_over)

module _ (es : List Element) (sound : SoundElements es) (few : length es ≤ 96) (r : Route) (route : SoundRoute es r) (e : ℕ) where
  abbrev used : Bool
  used = get_or (used_table es r) e false

  some_path : 0 < length (path_of r)
  some_path = let b = route.path.body in omega (arith, b.1, b.2)

  start_test : starts_at (path_of r) e ≡ true → place (path_of r) 0 ≡ e
  start_test t = eqb-true (place (path_of r) 0) e (and_parts (ltb 0 (length (path_of r))) _ t).1

  test_start : place (path_of r) 0 ≡ e → starts_at (path_of r) e ≡ true
  test_start i = and_from _ _ (lt-ltb 0 (length (path_of r)) some_path) (eq-eqb (place (path_of r) 0) e i)

  -- what is no signal is not the first element
  no_start : (at es e).kind ≢ kind.Signal → starts_at (path_of r) e ≡ false
  no_start n = false_from_ne_true _ (λ t. n (sym (ap (λ (x : ℕ). (at es x).kind) (start_test t)) ∙ route.path.starts_at_signal))

  flank_needs : {p : Position} {reach : ℕ} → Flank es r e p reach → Needs es r e (other p)
  flank_needs {p} (in_path f) = passes_in_path (flank_passes es sound (path_of r) route.path.within route.path.runs e p f)
  flank_needs {p} (in_overlap f) = passes_in_overlap (go route.overlap)
    where
      go : (overlap_of r ≡ []) ⊎ SoundOverlap es (path_of r) (overlap_of r) → PassesIn es (way_beyond r) e (other p)
      go (inl i) = absurd (omega (arith, f.between.within, ap length i))
      go (inr t) = flank_passes es sound (way_beyond r) (beyond_within es (path_of r) (overlap_of r) route.path.within t) t.runs e p f

  beyond_flank : (p : Position) → PassesIn es (way_beyond r) e p → FlankOf es (way_beyond r) e (other p)
  beyond_flank p f = go route.overlap
    where
      go : (overlap_of r ≡ []) ⊎ SoundOverlap es (path_of r) (overlap_of r) → FlankOf es (way_beyond r) e (other p)
      go (inl i) = absurd (omega (arith, f.between.within, ap length i))
      go (inr t) = passes_flank es sound (way_beyond r) (beyond_within es (path_of r) (overlap_of r) route.path.within t) t.runs e p f

  need_sound : (p : Position) → need_at es r used e ≡ Some p → Needs es r e p
  need_sound p t = first (starts_at (path_of r) e) refl t
    where
      beside : (o : Option Leg) → flank_of es r e ≡ o → passed_need o (derailer_need (at es e).kind used) ≡ Some p → Needs es r e p
      beside None i t =
          let x : ((at es e).kind ≡ kind.Derailer) × (used ≡ true) × (position.Minus ≡ p) = moved_sound (at es e).kind used p t in
          subst (Needs es r e) x.2 (derails (from_table es r e x.1) x.0)
      beside (Some f) i t =
          let same : other f.leg ≡ p = cc (t) in
          subst (Needs es r e) same (flank_needs (left_flank es r sound route e f i))

      first : (b : Bool) → starts_at (path_of r) e ≡ b
          → cond b (Some position.Minus) (passed_need (flank_of es r e) (derailer_need (at es e).kind used)) ≡ Some p → Needs es r e p
      first true s t = let same : position.Minus ≡ p = cc (t) in subst (Needs es r e) same (starts (start_test s))
      first false s t = beside (flank_of es r e) refl t

  -- the need of an element that is not the first
  later_need : (at es e).kind ≢ kind.Signal → need_at es r used e ≡ passed_need (flank_of es r e) (derailer_need (at es e).kind used)
  later_need n = ap (λ (b : Bool). cond b (Some position.Minus) (passed_need (flank_of es r e) (derailer_need (at es e).kind used))) (no_start n)

  flank_need : (p : Position) {reach : ℕ} → (at es e).kind ≡ kind.Point → Flank es r e (other p) reach → need_at es r used e ≡ Some p
  flank_need p k f =
      let left = flank_left es r sound route e f in
      later_need (λ s. cc)
      ∙ (ap (λ (o : Option Leg). passed_need o (derailer_need (at es e).kind used)) left.is
      ∙ ap (λ (q : Position). Some q) (ap other left.leg_is ∙ twice_other p))

  need_from : {p : Position} → Needs es r e p → need_at es r used e ≡ Some p
  need_from (starts i) =
      ap (λ (b : Bool). cond b (Some position.Minus) (passed_need (flank_of es r e) (derailer_need (at es e).kind used))) (test_start i)
  need_from (passes_in_path {p} f) = flank_need p f.point (in_path (passes_flank es sound (path_of r) route.path.within route.path.runs e p f))
  need_from (passes_in_overlap {p} f) = flank_need p f.point (in_overlap (beyond_flank p f))
  need_from (derails u k) =
      let is_used : used ≡ true = to_table es r few route.path.within (overlap_within es r sound few route) e u in
      let flank : flank_of es r e ≡ None = no_flank es r.class (path_of r) (overlap_of r) e (ap is_point k) in
      later_need (λ s. cc)
      ∙ (ap (λ (o : Option Leg). passed_need o (derailer_need (at es e).kind used)) flank
      ∙ (ap (λ (x : Kind). derailer_need x used) k ∙ ap (λ (b : Bool). cond b (Some position.Minus) None) is_used))

pub needs_exact : NeedsExact
unfolding want_at
needs_exact d sound i h e low p =
    let es : List Element = elements_of d in
    let r : Route = route_of d i in
    let route : SoundRoute es r = sound_route es r (sound.paths i h) (sound.overlaps i h) in
    let is : (want_of d i e).need ≡ need_at es r (get_or (used_table es r) e false) e = ap (λ (w : Want). w.need) (want_is d sound i h e low) in (
      (λ t. need_sound es sound.elements sound.few_elements r route e p (sym is ∙ t)),
      (λ n. is ∙ need_from es sound.elements sound.few_elements r route e n),
    )
