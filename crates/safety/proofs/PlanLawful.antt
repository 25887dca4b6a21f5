-- The sheets of a sound plan have all that the law over runs asks of sheets.
use Rattle.std.proofs.Common.{◌≡◌, ℕ, ◌<◌, true, ◌⊎◌, is_some, Some, Option, sym, ap, ◌∙◌, subst, inl, inr, ⊎_elim, arith}
use Rattle.std.proofs.lemmas.Bool.{ltb-true, lt-ltb, or_left, or_right, both_ways}
use Rattle.layout.specs.declared.drawing.Drawing.{Drawing}
use Rattle.layout.specs.declared.position.Position.{Position}
use Rattle.layout.specs.Uses.{UsesSection, UsesSectionInPath}
use Rattle.walks.specs.Exactly.{In}
use Rattle.sheets.specs.declared.sheet.RouteSheet.{RouteSheet}
use Rattle.sheets.specs.declared.sheet.Want.{Want}
use Rattle.sheets.specs.Lists.{is_wanted}
use Rattle.sheets.specs.Reading.{past_the_end, route_count, route_sheet, has_route, want_of, use_of, on_path, uses, wanted_by, used_by}
use Rattle.sheets.specs.Sheets.{no_sheet, sheets_of}
use Rattle.plan.specs.Flanks.{route_of}
use Rattle.plan.specs.Sound.{SoundPlan}
use Rattle.sheetlaws.specs.Routes.{elements_of, HasRoute, sheet_at}
use Rattle.sheetlaws.specs.Ends.{first_element}
use Rattle.sheetlaws.proofs.Reading.{sheets_in_order}
use Rattle.sheetlaws.proofs.SectionsExact.{sections_exact, sections_in_range}
use Rattle.sheetlaws.proofs.EndsExact.{ends_exact}
use Rattle.sheetlaws.proofs.ListsExact.{wanted_exact, used_exact}
use Rattle.sheetlaws.proofs.OneStart.{one_start}
use Rattle.runlaws.specs.Lawful.{Uses, Excused, Lawful}

module _ (d : Drawing) (sound : SoundPlan d) where
  -- the sheet with a number of the plan, whatever would be read past the last
  pub same_sheet : (a : ℕ) → HasRoute d a → route_sheet (sheets_of d) a ≡ sheet_at d a
  same_sheet a h = (sheets_in_order d sound).1 a past_the_end h ∙ sym ((sheets_in_order d sound).1 a no_sheet h)

  pub route_known : (a : ℕ) → has_route (sheets_of d) a ≡ true → HasRoute d a
  route_known a t = let low = ltb-true a (route_count (sheets_of d)) t in let same = (sheets_in_order d sound).0 in omega arith

  pub route_has : (a : ℕ) → HasRoute d a → has_route (sheets_of d) a ≡ true
  route_has a h = let same = (sheets_in_order d sound).0 in lt-ltb a (route_count (sheets_of d)) (omega arith)

  some_wanted : (w : Want) (p : Position) → (w.need ≡ Some p) ⊎ (w.request ≡ Some p) → is_wanted w ≡ true
  some_wanted w p h =
      ⊎_elim
      (λ (e : w.need ≡ Some p). or_left (is_some w.need) (is_some w.request) (ap (λ (o : Option Position). is_some o) e))
      (λ (e : w.request ≡ Some p). or_right (is_some w.need) (is_some w.request) (ap (λ (o : Option Position). is_some o) e)) h

  wanted : (a e : ℕ) → HasRoute d a → is_wanted (want_of (route_sheet (sheets_of d) a) e) ≡ true
      → (e < 96) × In e (wanted_by (route_sheet (sheets_of d) a))
  wanted a e h t =
      subst (λ (s : RouteSheet). is_wanted (want_of s e) ≡ true → (e < 96) × In e (wanted_by s)) (sym (same_sheet a h))
      (λ u. ((wanted_exact d sound a h e).1 u, (wanted_exact d sound a h e).0.1 u)) t

  used : (a x : ℕ) → HasRoute d a → uses (route_sheet (sheets_of d) a) x ≡ true → (x < 64) × In x (used_by (route_sheet (sheets_of d) a))
  used a x h t =
      subst (λ (s : RouteSheet). uses s x ≡ true → (x < 64) × In x (used_by s)) (sym (same_sheet a h))
      (λ u. ((used_exact d sound a h x).1 u, (used_exact d sound a h x).0.1 u)) t

  pub listed_used : (a x : ℕ) → HasRoute d a → In x (used_by (route_sheet (sheets_of d) a)) → uses (route_sheet (sheets_of d) a) x ≡ true
  listed_used a x h t =
      subst (λ (s : RouteSheet). In x (used_by s) → uses s x ≡ true) (sym (same_sheet a h)) (λ i. (used_exact d sound a h x).0.0 i) t

  -- a section that the path of a route uses is on the path of its sheet
  pub path_told : (a x : ℕ) → HasRoute d a → UsesSectionInPath (elements_of d) (route_of d a) x → on_path (route_sheet (sheets_of d) a) x ≡ true
  path_told a x h u =
      subst (λ (s : RouteSheet). on_path s x ≡ true) (sym (same_sheet a h))
      ((sections_exact d sound a h x (sections_in_range d sound a h x (inl u))).0.1 u)

  pub use_told : (a x : ℕ) → HasRoute d a → UsesSection (elements_of d) (route_of d a) x → Uses (sheets_of d) a x
  use_told a x h u =
      let low : x < 64 = sections_in_range d sound a h x u in
      subst (λ (s : RouteSheet). uses s x ≡ true) (sym (same_sheet a h))
      (⊎_elim
      (λ (v : UsesSectionInPath (elements_of d) (route_of d a) x).
      or_left (use_of (sheet_at d a) x).path (use_of (sheet_at d a) x).overlap ((sections_exact d sound a h x low).0.1 v))
      (λ v. or_right (use_of (sheet_at d a) x).path (use_of (sheet_at d a) x).overlap ((sections_exact d sound a h x low).1.1 v))
      u)

  pub first_told : (a : ℕ) → HasRoute d a → (route_sheet (sheets_of d) a).first ≡ first_element d a
  first_told a h = ap (λ (s : RouteSheet). s.first) (same_sheet a h) ∙ (ends_exact d sound a h).0

  -- a section that both paths use is excused by neither
  starts :
      (a b : ℕ) → HasRoute d a → HasRoute d b → (route_sheet (sheets_of d) a).first ≡ (route_sheet (sheets_of d) b).first
      → (x : ℕ) × (Uses (sheets_of d) a x × Uses (sheets_of d) b x × (Excused (sheets_of d) a b x → ⊥) × (Excused (sheets_of d) b a x → ⊥))
  starts a b ha hb same =
      let one = (one_start d sound a b ha hb (sym (first_told a ha) ∙ (same ∙ first_told b hb))).0 in
      let x = one.0 in (
        x,
        (
          use_told a x ha (inl one.2),
          use_told b x hb (inl one.3),
          (λ e. both_ways (on_path (route_sheet (sheets_of d) a) x) e.1 (path_told a x ha one.2)),
          (λ e. both_ways (on_path (route_sheet (sheets_of d) b) x) e.1 (path_told b x hb one.3)),
        ),
      )

  pub plan_lawful : Lawful (sheets_of d)
  plan_lawful = record {
    few = let same = (sheets_in_order d sound).0 in let most = sound.few_routes in omega arith;
    needed = λ a e p t n. wanted a e (route_known a t) (some_wanted (want_of (route_sheet (sheets_of d) a) e) p (inl n));
    requested = λ a e p t n. wanted a e (route_known a t) (some_wanted (want_of (route_sheet (sheets_of d) a) e) p (inr n));
    used = λ a x t u. used a x (route_known a t) u;
    listed = λ a x t i. listed_used a x (route_known a t) i;
    starts = λ a b ta tb ne same. starts a b (route_known a ta) (route_known b tb) same;
  }
