-- The sheet of a route tells its first element, the signal and the lamp at its end, and what its start signal shows.
use Rattle.std.proofs.Common.{◌≡◌, ℕ, ◌<◌, Bool, true, false, cond, ◌||◌, List, length, Some, None, Option, sym, refl, ap, ◌∙◌, subst, arith}
use Rattle.std.proofs.lemmas.Option.{cond_some}
use Rattle.std.proofs.lemmas.Bool.{cond-true, lt-ltb, or_parts, or_from}
use Rattle.layout.specs.declared.drawing.Drawing.{Drawing}
use Rattle.layout.specs.declared.element.Element.{Element}
use Rattle.layout.specs.declared.kind.Kind.TheVariants as kind
use Rattle.layout.specs.declared.kind.Marks.{Marks}
use Rattle.layout.specs.declared.route.Route.{Route}
use Rattle.layout.specs.Kinds.{is_signal}
use Rattle.layout.specs.Ports.{at}
use Rattle.layout.specs.Uses.{path_of}
use Rattle.layout.proofs.KindTests.{signal_test}
use Rattle.walks.proofs.Flanks.{sound_route}
use Rattle.sheets.specs.declared.sheet.RouteSheet.{RouteSheet}
use Rattle.sheets.specs.Sheets.{showing_of, signal_at, is_spared, end_lamp_of, no_sheet, sheet_of}
use Rattle.plan.specs.Flanks.{route_of}
use Rattle.plan.specs.Sound.{SoundPlan}
use Rattle.sheetlaws.specs.Routes.{HasRoute, elements_of, sheet_at}
use Rattle.sheetlaws.specs.Ends.{first_element, last_element, EndsAtSignal, ProvesLamp, EndsExact, ShowingExact}
use Rattle.sheetlaws.proofs.Reading.{sheets_in_order}

-- a value that is there where a condition fails
cond_none : (b : Bool) (x y : ℕ) → cond b None (Some x) ≡ Some y → (b ≡ false) × (x ≡ y)
cond_none true x y e = cc
cond_none false x y e = (refl, (cc))

spared_sound : (o : Option Marks) → is_spared o ≡ false → (m : Marks) → o ≡ Some m → m.lamp_spared ≡ false
spared_sound o e m i = rw i at e

spared_from : (o : Option Marks) → ((m : Marks) → o ≡ Some m → m.lamp_spared ≡ false) → is_spared o ≡ false
spared_from None h = refl
spared_from (Some m) h = h m refl

module _ (d : Drawing) (p : SoundPlan d) (i : ℕ) (h : HasRoute d i) where
  abbrev es : List Element
  es = elements_of d

  abbrev r : Route
  r = route_of d i

  some_path : 0 < length (path_of r)
  some_path = let b = (sound_route es r (p.paths i h) (p.overlaps i h)).path.body in omega (arith, b.1, b.2)

  is_sheet : sheet_at d i ≡ sheet_of es r
  is_sheet = (sheets_in_order d p).1 i no_sheet h

  first_is : (sheet_at d i).first ≡ first_element d i
  unfolding sheet_of
  first_is = ap (λ (a : RouteSheet). a.first) is_sheet

  last_is : (sheet_at d i).last_signal ≡ signal_at es (last_element d i)
  unfolding sheet_of
  last_is = ap (λ (a : RouteSheet). a.last_signal) is_sheet ∙ cond-true _ _ _ (lt-ltb 0 (length (path_of r)) some_path)

  lamp_is : (sheet_at d i).end_lamp ≡ end_lamp_of es (sheet_at d i).last_signal r.zero_overlap
  unfolding sheet_of
  lamp_is =
      ap (λ (a : RouteSheet). a.end_lamp) is_sheet
      ∙ ap (λ (o : Option ℕ). end_lamp_of es o r.zero_overlap) (sym (ap (λ (a : RouteSheet). a.last_signal) is_sheet))

  last_sound : (l : ℕ) → (sheet_at d i).last_signal ≡ Some l → EndsAtSignal d i l
  last_sound l e =
      let x : (is_signal (at es (last_element d i)).kind ≡ true) × (last_element d i ≡ l) = cond_some _ (last_element d i) l (sym last_is ∙ e) in
      record { ends = x.1; signal = subst (λ (n : ℕ). (at es n).kind ≡ kind.Signal) x.1 (signal_test _ x.0) }

  last_from : (l : ℕ) → EndsAtSignal d i l → (sheet_at d i).last_signal ≡ Some l
  last_from l e =
      let signal : is_signal (at es (last_element d i)).kind ≡ true = ap (λ (n : ℕ). is_signal (at es n).kind) e.ends ∙ ap is_signal e.signal in
      last_is ∙ (cond-true _ _ _ signal ∙ ap Some e.ends)

  lamp_sound : (l : ℕ) → (sheet_at d i).end_lamp ≡ Some l → ProvesLamp d i l
  lamp_sound l e = go (sheet_at d i).last_signal refl (sym lamp_is ∙ e)
    where
      go : (o : Option ℕ) → (sheet_at d i).last_signal ≡ o → end_lamp_of es o r.zero_overlap ≡ Some l → ProvesLamp d i l
      go None s t = cc
      go (Some k) s t =
          let x : ((r.zero_overlap || is_spared (at es k).marks) ≡ false) × (k ≡ l) = cond_none _ k l t in
          let y : (r.zero_overlap ≡ false) × (is_spared (at es k).marks ≡ false) = or_parts _ _ x.0 in
          let spared : is_spared (at es l).marks ≡ false = subst (λ (n : ℕ). is_spared (at es n).marks ≡ false) x.1 y.1 in
          record { at_end = last_sound l (s ∙ ap Some x.1); no_zero = y.0; kept = spared_sound (at es l).marks spared }

  lamp_from : (l : ℕ) → ProvesLamp d i l → (sheet_at d i).end_lamp ≡ Some l
  lamp_from l e =
      let clear : (r.zero_overlap || is_spared (at es l).marks) ≡ false = or_from _ _ e.no_zero (spared_from (at es l).marks e.kept) in
      lamp_is ∙ (ap (λ (o : Option ℕ). end_lamp_of es o r.zero_overlap) (last_from l e.at_end) ∙ ap (λ (b : Bool). cond b None (Some l)) clear)

  showing_is : (sheet_at d i).showing ≡ showing_of r
  unfolding sheet_of
  showing_is = ap (λ (a : RouteSheet). a.showing) is_sheet

pub ends_exact : EndsExact
ends_exact d p i h = (first_is d p i h, (λ l. (last_sound d p i h l, last_from d p i h l)), (λ l. (lamp_sound d p i h l, lamp_from d p i h l)))

pub showing_exact : ShowingExact
showing_exact d p i h = (
  (λ c. showing_is d p i h ∙ rw c),
  (λ c z. showing_is d p i h ∙ rw (c, z)),
  (λ c z. showing_is d p i h ∙ rw (c, z)),
)
