-- The short lists of a sheet have exactly the elements that the route needs or requests, and the sections that it uses.
use Rattle.std.proofs.Common.{◌≡◌, ℕ, suc, ◌<◌, ◌≤◌, true, ◌⊎◌, List, [], length, is_some, ap, subst, inl, inr, ⊎_elim, arith}
use Rattle.std.proofs.lemmas.Bool.{or_cases, or_left, or_right}
use Rattle.layout.specs.declared.drawing.Drawing.{Drawing}
use Rattle.layout.specs.declared.element.Element.{Element}
use Rattle.layout.specs.declared.position.Position.{Position}
use Rattle.layout.specs.declared.route.Route.{Route}
use Rattle.layout.specs.Sound.{SoundElements}
use Rattle.layout.specs.Uses.{path_of, overlap_of, UsesSection}
use Rattle.layout.proofs.Values.{some_of}
use Rattle.paths.specs.Sound.{SoundOverlap}
use Rattle.flank.specs.Protection.{route_marks}
use Rattle.walks.proofs.Exactly.{requests_exact, overlap_within}
use Rattle.walks.proofs.Flanks.{SoundRoute, sound_route, beyond_within}
use Rattle.walks.proofs.Tables.{in_requests}
use Rattle.sheets.specs.Lists.{is_wanted, is_used}
use Rattle.plan.specs.Flanks.{route_of}
use Rattle.plan.specs.Sound.{SoundPlan}
use Rattle.sheetlaws.specs.Routes.{elements_of, HasRoute}
use Rattle.sheetlaws.specs.Requests.{want_of}
use Rattle.sheetlaws.specs.Sections.{use_of}
use Rattle.sheetlaws.specs.Needed.{Needs, starts, passes_in_path, passes_in_overlap, derails}
use Rattle.sheetlaws.specs.Lists.{Wants, WantedExact, UsedSectionsExact}
use Rattle.sheetlaws.proofs.SectionsExact.{used_known, sections_exact, sections_in_range}
use Rattle.sheetlaws.proofs.RequestsExact.{sheet_requests_exact}
use Rattle.sheetlaws.proofs.NeedsExact.{needs_exact}
use Rattle.sheetlaws.proofs.ListsExact.{wanted_exact, used_exact}

-- what a route needs is an element of the plan
needed_known : (es : List Element) → SoundElements es → length es ≤ 96 → (r : Route) → SoundRoute es r → (e : ℕ) {p : Position} → Needs es r e p → e < length es
needed_known es sound few r route e (starts i) = let b = route.path.body in subst (λ n. n < length es) i (route.path.within 0 (omega (arith, b.1, b.2)))
needed_known es sound few r route e (passes_in_path f) =
    subst (λ n. n < length es) f.between.is (route.path.within (suc f.at_place) (omega (arith, f.between.within)))
needed_known es sound few r route e (passes_in_overlap f) = go route.overlap
  where
    go : (overlap_of r ≡ []) ⊎ SoundOverlap es (path_of r) (overlap_of r) → e < length es
    go (inl i) = absurd (omega (arith, f.between.within, ap length i))
    go (inr t) =
        subst (λ n. n < length es) f.between.is
        (beyond_within es (path_of r) (overlap_of r) route.path.within t (suc f.at_place) (omega (arith, f.between.within)))
needed_known es sound few r route e (derails u k) = used_known es r route.path.within (overlap_within es r sound few route) e u

module _ (d : Drawing) (sound : SoundPlan d) (i : ℕ) (h : HasRoute d i) where
  abbrev es : List Element
  es = elements_of d

  abbrev r : Route
  r = route_of d i

  wanted_low : (e : ℕ) → Wants es r e → e < 96
  wanted_low e (inl n) =
      let known = needed_known es sound.elements sound.few_elements r (sound_route es r (sound.paths i h) (sound.overlaps i h)) e n.1 in
      let few = sound.few_elements in
      omega arith
  wanted_low e (inr q) =
      (in_requests (route_marks es r) 96 e q.0
      ((requests_exact es r sound.elements sound.few_elements (sound.paths i h) (sound.overlaps i h) e q.0).0 q.1)).0

  wants_sound : (e : ℕ) → e < 96 → is_wanted (want_of d i e) ≡ true → Wants es r e
  wants_sound e low t =
      ⊎_elim
      (λ a. let p = some_of (want_of d i e).need a in inl (p.0, (needs_exact d sound i h e low p.0).0 p.1))
      (λ a. let p = some_of (want_of d i e).request a in inr (p.0, (sheet_requests_exact d sound i h e low p.0).0 p.1))
      (or_cases (is_some (want_of d i e).need) (is_some (want_of d i e).request) t)

  wants_from : (e : ℕ) → e < 96 → Wants es r e → is_wanted (want_of d i e) ≡ true
  wants_from e low (inl n) = or_left (is_some (want_of d i e).need) (is_some (want_of d i e).request) (ap is_some ((needs_exact d sound i h e low n.0).1 n.1))
  wants_from e low (inr q) =
      or_right (is_some (want_of d i e).need) (is_some (want_of d i e).request) (ap is_some ((sheet_requests_exact d sound i h e low q.0).1 q.1))

  uses_sound : (s : ℕ) → s < 64 → is_used (use_of d i s) ≡ true → UsesSection es r s
  uses_sound s low t =
      let exact = sections_exact d sound i h s low in
      ⊎_elim (λ a. inl (exact.0.0 a)) (λ a. inr (exact.1.0 a)) (or_cases (use_of d i s).path (use_of d i s).overlap t)

  uses_from : (s : ℕ) → s < 64 → UsesSection es r s → is_used (use_of d i s) ≡ true
  uses_from s low (inl u) = or_left (use_of d i s).path (use_of d i s).overlap ((sections_exact d sound i h s low).0.1 u)
  uses_from s low (inr u) = or_right (use_of d i s).path (use_of d i s).overlap ((sections_exact d sound i h s low).1.1 u)

pub wanted_in_words : WantedExact
wanted_in_words d sound i h e =
    let has = wanted_exact d sound i h e in (
      (λ m. let t = has.0.0 m in wants_sound d sound i h e (has.1 t) t),
      (λ w. has.0.1 (wants_from d sound i h e (wanted_low d sound i h e w) w)),
    )

pub used_in_words : UsedSectionsExact
used_in_words d sound i h s =
    let has = used_exact d sound i h s in (
      (λ m. let t = has.0.0 m in uses_sound d sound i h s (has.1 t) t),
      (λ u. has.0.1 (uses_from d sound i h s (sections_in_range d sound i h s u) u)),
    )
