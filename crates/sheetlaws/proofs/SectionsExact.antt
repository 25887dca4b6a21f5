-- The sheet of a route tells exactly the sections that the route uses in its path and in its overlap.
use Rattle.std.proofs.Common.{◌≡◌, ℕ, suc, ◌-◌, ◌<◌, true, List, length, get_or, is_some, Some, sym, refl, ap, ◌∙◌, subst, inl, inr, arith}
use Rattle.std.proofs.lemmas.List.FromFn.{get_or-map-range_with_len}
use Rattle.layout.specs.declared.element.Element.{Element}
use Rattle.layout.specs.declared.route.Route.{Route}
use Rattle.layout.specs.Kinds.{is_sectioned}
use Rattle.layout.specs.Ports.{at}
use Rattle.layout.specs.Sound.{SoundElements}
use Rattle.layout.specs.Ways.{place, inner}
use Rattle.layout.specs.Uses.{path_of, overlap_of, Uses, UsesSectionInPath, UsesSectionInOverlap}
use Rattle.paths.specs.Sound.{Within}
use Rattle.walks.proofs.Used.{inner_length, inner_place}
use Rattle.walks.proofs.Flanks.{SoundRoute, sound_route}
use Rattle.walks.proofs.Exactly.{overlap_within}
use Rattle.sheets.specs.declared.sheet.RouteSheet.{RouteSheet}
use Rattle.sheets.specs.declared.sheet.SectionUse.{SectionUse}
use Rattle.sheets.specs.Sections.{is_on_way, section_use, no_use, sections_of}
use Rattle.sheets.specs.Sheets.{no_sheet, sheet_of}
use Rattle.plan.specs.Flanks.{route_of}
use Rattle.sheetlaws.specs.Routes.{elements_of}
use Rattle.sheetlaws.specs.Sections.{use_of, SectionsExact, SectionsInRange}
use Rattle.sheetlaws.proofs.Reading.{sheets_in_order}
use Rattle.sheetlaws.proofs.Places.{on_way_sound, on_way_from}

-- an element of the plan that has a section is a track, a point or a derailer
has_section : (es : List Element) → SoundElements es → (e s : ℕ) → e < length es → (at es e).section ≡ Some s → is_sectioned (at es e).kind ≡ true
has_section es sound e s h i = sym (sound.fields e h).section ∙ ap is_some i

module _ (es : List Element) (sound : SoundElements es) (r : Route) (s : ℕ) where
  in_path_sound : Within es (path_of r) → is_on_way es (inner (path_of r)) s ≡ true → UsesSectionInPath es r s
  in_path_sound within t =
      let x : (k : ℕ) × (k < length (inner (path_of r))) × ((at es (place (inner (path_of r)) k)).section ≡ Some s) = on_way_sound es (inner (path_of r)) s t in
      let k : ℕ = x.0 in
      let low : k < length (path_of r) - 1 - 1 = omega (arith, x.1, inner_length (path_of r)) in
      let e : ℕ = place (path_of r) (suc k) in
      let lies : (at es e).section ≡ Some s = subst (λ (n : ℕ). (at es n).section ≡ Some s) (inner_place (path_of r) k low) x.2 in (
        e,
        record { at_place = k; between = record { is = refl; within = omega arith }; sectioned = has_section es sound e s (within (suc k) (omega arith)) lies },
        lies,
      )

  in_path_from : UsesSectionInPath es r s → is_on_way es (inner (path_of r)) s ≡ true
  in_path_from u =
      let k : ℕ = u.1.at_place in
      let far : suc (suc k) < length (path_of r) = u.1.between.within in
      let low : k < length (path_of r) - 1 - 1 = omega arith in
      let is : place (inner (path_of r)) k ≡ u.0 = inner_place (path_of r) k low ∙ u.1.between.is in
      on_way_from es (inner (path_of r)) s k (omega (arith, inner_length (path_of r))) (subst (λ (n : ℕ). (at es n).section ≡ Some s) (sym is) u.2)

  in_overlap_sound : Within es (overlap_of r) → is_on_way es (overlap_of r) s ≡ true → UsesSectionInOverlap es r s
  in_overlap_sound within t =
      let x : (k : ℕ) × (k < length (overlap_of r)) × ((at es (place (overlap_of r) k)).section ≡ Some s) = on_way_sound es (overlap_of r) s t in (
        place (overlap_of r) x.0,
        record { at_place = x.0; within = x.1; is = refl; sectioned = has_section es sound (place (overlap_of r) x.0) s (within x.0 x.1) x.2 },
        x.2,
      )

  in_overlap_from : UsesSectionInOverlap es r s → is_on_way es (overlap_of r) s ≡ true
  in_overlap_from u =
      on_way_from es (overlap_of r) s u.1.at_place u.1.within (subst (λ (n : ℕ). (at es n).section ≡ Some s) (sym u.1.is) u.2)

section_at : (es : List Element) (r : Route) (s : ℕ) → s < 64 → get_or (sheet_of es r).sections s no_use ≡ section_use es r s
unfolding sheet_of sections_of
section_at es r s h = get_or-map-range_with_len (section_use es r) 0 64 s s no_use h (omega arith)

pub sections_exact : SectionsExact
sections_exact d p i h s l =
    let es : List Element = elements_of d in
    let r : Route = route_of d i in
    let route : SoundRoute es r = sound_route es r (p.paths i h) (p.overlaps i h) in
    let is : use_of d i s ≡ section_use es r s
    = ap (λ (a : RouteSheet). get_or a.sections s no_use) ((sheets_in_order d p).1 i no_sheet h) ∙ section_at es r s l in
    let path : (use_of d i s).path ≡ is_on_way es (inner (path_of r)) s = ap (λ (u : SectionUse). u.path) is in
    let overlap : (use_of d i s).overlap ≡ is_on_way es (overlap_of r) s = ap (λ (u : SectionUse). u.overlap) is in (
      ((λ t. in_path_sound es p.elements r s route.path.within (sym path ∙ t)), (λ u. path ∙ in_path_from es p.elements r s u)),
      ((λ t. in_overlap_sound es p.elements r s (overlap_within es r p.elements p.few_elements route) (sym overlap ∙ t)), (λ u. overlap ∙ in_overlap_from es p.elements r s u)),
    )

-- an element that a route uses is one of the plan
pub used_known : (es : List Element) (r : Route) → Within es (path_of r) → Within es (overlap_of r) → (e : ℕ) → Uses es r e → e < length es
used_known es r path overlap e (inl u) =
    subst (λ (n : ℕ). n < length es) u.between.is (path (suc u.at_place) (omega (arith, u.between.within)))
used_known es r path overlap e (inr u) = subst (λ (n : ℕ). n < length es) u.is (overlap u.at_place u.within)

pub sections_in_range : SectionsInRange
sections_in_range d sound i h s u =
    let es : List Element = elements_of d in
    let r : Route = route_of d i in
    let route : SoundRoute es r = sound_route es r (sound.paths i h) (sound.overlaps i h) in
    let known : (e : ℕ) → Uses es r e → e < length es
    = used_known es r route.path.within (overlap_within es r sound.elements sound.few_elements route) in
    elim u [
      | inl x ↦ (sound.elements.fields x.0 (known x.0 (inl x.1))).section_low s x.2
      | inr x ↦ (sound.elements.fields x.0 (known x.0 (inr x.1))).section_low s x.2
    ]
