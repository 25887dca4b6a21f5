-- Which refusal an act gets.
use Rattle.std.proofs.Common.{◌≡◌, ℕ, ◌<◌, Bool, true, false, inl, inr, ⊎_elim, None, Some, sym, ap, ◌∙◌}
use Rattle.std.proofs.lemmas.Bool.{cases_Bool, both_ways, cond-false, or_left, false_from_ne_true}
use Rattle.layout.specs.declared.drawing.Drawing.{Drawing}
use Rattle.refusals.specs.declared.refusal.Refusal.TheVariants as refusal
use Rattle.sheets.specs.Reading.{route_sheet, has_route, use_of}
use Rattle.sheets.specs.Sheets.{sheets_of}
use Rattle.plan.specs.Sound.{SoundPlan}
use Rattle.sheetlaws.specs.Routes.{HasRoute}
use Rattle.field.specs.Meaning.{occupied_of}
use Rattle.holds.specs.States.{stands}
use Rattle.holds.specs.Interlockings.{state_of}
use Rattle.holds.specs.Refusing.{all_admit, all_fit}
use Rattle.acts.specs.declared.act.Act.TheVariants as act
use Rattle.acts.specs.Situations.{Situation}
use Rattle.acts.specs.Answers.{path_free, is_event}
use Rattle.runlaws.specs.Lawful as over
use Rattle.runlaws.proofs.Accepting as accepting
use Rattle.runlaws.proofs.Coherent.{admitted_apart}
use Rattle.runlaws.proofs.Refused.{answer_by, no_route_told, stands_told, in_use_told, otherwise_told, one_of_four, clear_answer_by, unknown_clear, idle_clear, one_of_two, release_answer_by, unknown_release, idle_release, occupied_release, one_of_three, event_refused, path_blocked, Clash, clash_found, clash_refuses, Locked, locked_found, locked_refuses}
use Rattle.safety.specs.Words.{Standing}
use Rattle.safety.specs.Refused.{Gets, SharedExcused, SectionInUse, HeldOtherwise, SetRefusedExactly, ClearRefused, ClearRefusedExactly, PathOccupied, ReleaseRefused, ReleaseRefusedExactly, EventRefusedExactly}
use Rattle.safety.proofs.PlanLawful.{route_known, route_has, path_told, use_told, plan_lawful}
use Rattle.safety.proofs.PlanLaw.{excused}
use Rattle.safety.proofs.SetExact.{need_told, need_meant, use_low, path_meant, use_meant, excuse_told}
use Rattle.safety.proofs.AcceptExact.{event_meant, event_told}

module _ (d : Drawing) (sound : SoundPlan d) (s : Situation) (r : ℕ) where
  abbrev known : Bool
  known = has_route (sheets_of d) r

  abbrev up : Bool
  up = stands (state_of s.inner r)

  abbrev admit : Bool
  admit = all_admit (sheets_of d) (route_sheet (sheets_of d) r) s.inner

  abbrev fit : Bool
  fit = all_fit (route_sheet (sheets_of d) r) s.inner

  not_standing : up ≡ false → Standing s r → ⊥
  not_standing f st = both_ways up f st

  module _ (h : HasRoute d r) where
    clash_meant : Clash (sheets_of d) s.inner r → SectionInUse d s r
    clash_meant c =
        let q : HasRoute d c.other = route_known d sound c.other c.known in
        let low : c.section < 64 = use_low d sound r c.section h c.wanted in
        record {
          other = c.other;
          section = c.section;
          known = q;
          stands = c.stands;
          wanted = use_meant d sound r c.section h c.wanted;
          used = use_meant d sound c.other c.section q c.used;
          not_onward = λ e. c.not_after (excuse_told d sound r c.other c.section h q low e);
          not_into = λ e. c.not_before (excuse_told d sound c.other r c.section q h low e);
        }

    clash_from : SectionInUse d s r → Clash (sheets_of d) s.inner r
    clash_from u = record {
      other = u.other;
      section = u.section;
      known = route_has d sound u.other u.known;
      stands = u.stands;
      wanted = use_told d sound r u.section h u.wanted;
      used = use_told d sound u.other u.section u.known u.used;
      not_after = λ e. u.not_onward (excused d sound r u.other u.section h u.known e);
      not_before = λ e. u.not_into (excused d sound u.other r u.section u.known h e);
    }

    shared_meant : admit ≡ true → SharedExcused d s r
    shared_meant a q x hq st ur uq =
        ⊎_elim
        (λ (e : over.Excused (sheets_of d) r q x). inl (excused d sound r q x h hq e))
        (λ (e : over.Excused (sheets_of d) q r x). inr (excused d sound q r x hq h e))
        (admitted_apart (sheets_of d) (plan_lawful d sound) s.inner r (route_has d sound r h) a q x (route_has d sound q hq) st
        (use_told d sound r x h ur) (use_told d sound q x hq uq))

    shared_told : SharedExcused d s r → admit ≡ true
    shared_told free =
        ⊎_elim
        (λ (a : admit ≡ true). a)
        (λ (none : admit ≡ false).
        let u = clash_meant (clash_found (sheets_of d) (plan_lawful d sound) s.inner r (route_has d sound r h) none) in
        absurd (⊎_elim u.not_onward u.not_into (free u.other u.section u.known u.stands u.wanted u.used)))
        (cases_Bool admit)

    locked_meant : Locked (sheets_of d) s.inner r → HeldOtherwise d s r
    locked_meant l = record {
      element = l.element;
      position = l.position;
      holder = l.holder;
      needed = need_meant d sound r l.element l.position h l.needs;
      held = l.held;
      otherwise = l.other;
    }

    locked_from : HeldOtherwise d s r → Locked (sheets_of d) s.inner r
    locked_from o = record {
      element = o.element;
      position = o.position;
      holder = o.holder;
      needs = need_told d sound r o.element o.position h o.needed;
      held = o.held;
      other = o.otherwise;
    }

  refused_use : Gets d s (act.Set r) refusal.SectionInUse → HasRoute d r × (Standing s r → ⊥) × SectionInUse d s r
  refused_use g =
      let told = in_use_told known up admit fit g in
      let h : HasRoute d r = route_known d sound r told.0 in
      (h, not_standing told.1, clash_meant h (clash_found (sheets_of d) (plan_lawful d sound) s.inner r told.0 told.2))

  use_refuses : HasRoute d r → (Standing s r → ⊥) → SectionInUse d s r → Gets d s (act.Set r) refusal.SectionInUse
  use_refuses h new u =
      let k : known ≡ true = route_has d sound r h in
      let n : up ≡ false = false_from_ne_true up new in
      let a : admit ≡ false = clash_refuses (sheets_of d) (plan_lawful d sound) s.inner r k (clash_from h u) in
      λ i. answer_by (k i) (n i) (a i) fit

  refused_otherwise : Gets d s (act.Set r) refusal.HeldOtherwise → HasRoute d r × (Standing s r → ⊥) × SharedExcused d s r × HeldOtherwise d s r
  refused_otherwise g =
      let told = otherwise_told known up admit fit g in
      let h : HasRoute d r = route_known d sound r told.0 in
      (h, not_standing told.1, shared_meant h told.2, locked_meant h (locked_found (sheets_of d) s.inner r told.3))

  otherwise_refuses : HasRoute d r → (Standing s r → ⊥) → SharedExcused d s r → HeldOtherwise d s r → Gets d s (act.Set r) refusal.HeldOtherwise
  otherwise_refuses h new free o =
      let k : known ≡ true = route_has d sound r h in
      let n : up ≡ false = false_from_ne_true up new in
      let a : admit ≡ true = shared_told h free in
      let f : fit ≡ false = locked_refuses (sheets_of d) (plan_lawful d sound) s.inner r k (locked_from h o) in
      λ i. answer_by (k i) (n i) (a i) (f i)

pub set_refused : (d : Drawing) → SoundPlan d → SetRefusedExactly d
set_refused d sound s r =
    let k = known d sound s r in
    let u = up d sound s r in
    let a = admit d sound s r in
    let f = fit d sound s r in
    record {
      no_such_route = (
        λ g h. both_ways k (no_route_told k u a f g) (route_has d sound r h),
        λ none. let unknown : k ≡ false = false_from_ne_true k (λ t. none (route_known d sound r t)) in λ i. answer_by (unknown i) u a f,
      );
      stands_already = (
        λ g. let told = stands_told k u a f g in (route_known d sound r told.0, told.1),
        λ b.
            let t : k ≡ true = route_has d sound r b.0 in
            let st : u ≡ true = b.1 in
            λ i. answer_by (t i) (st i) a f,
      );
      section_in_use = (refused_use d sound s r, λ b. use_refuses d sound s r b.0 b.1 b.2);
      held_otherwise = (refused_otherwise d sound s r, λ b. otherwise_refuses d sound s r b.0 b.1 b.2 b.3);
      no_other = one_of_four k u a f;
    }

module _ (d : Drawing) (sound : SoundPlan d) (s : Situation) (r : ℕ) where
  pub clear_refused : ClearRefused d s r
  clear_refused =
      let k = known d sound s r in
      let u = up d sound s r in
      record {
        no_such_route = (
          λ g h. both_ways k (unknown_clear k u g) (route_has d sound r h),
          λ none. let unknown : k ≡ false = false_from_ne_true k (λ t. none (route_known d sound r t)) in λ i. clear_answer_by (unknown i) u,
        );
        not_standing = (
          λ g. let told = idle_clear k u g in (route_known d sound r told.0, not_standing d sound s r told.1),
          λ b.
              let t : k ≡ true = route_has d sound r b.0 in
              let n : u ≡ false = false_from_ne_true u b.1 in
              λ i. clear_answer_by (t i) (n i),
        );
        no_other = one_of_two k u;
      }

  abbrev free : Bool
  free = path_free (route_sheet (sheets_of d) r) s.meant

  occupied_meant : HasRoute d r → free ≡ false → PathOccupied d s r
  occupied_meant h n =
      let found = path_blocked (sheets_of d) s.meant r n in
      let low : found.0 < 64 = use_low d sound r found.0 h (or_left (use_of (route_sheet (sheets_of d) r) found.0).path (use_of (route_sheet (sheets_of d) r) found.0).overlap found.1) in
      record { section = found.0; used = path_meant d sound r found.0 h low found.1; occupied = found.2 }

  occupied_told : HasRoute d r → PathOccupied d s r → free ≡ false
  occupied_told h o =
      false_from_ne_true free
      (λ t.
      both_ways (occupied_of s.meant o.section)
      (accepting.path_told (sheets_of d) (plan_lawful d sound) s.meant r (route_has d sound r h) t o.section (path_told d sound r o.section h o.used))
      o.occupied)

  pub release_refused : ReleaseRefused d s r
  release_refused =
      let k = known d sound s r in
      let u = up d sound s r in
      let f = free in
      record {
        no_such_route = (
          λ g h. both_ways k (unknown_release k u f g) (route_has d sound r h),
          λ none. let unknown : k ≡ false = false_from_ne_true k (λ t. none (route_known d sound r t)) in λ i. release_answer_by (unknown i) u f,
        );
        not_standing = (
          λ g. let told = idle_release k u f g in (route_known d sound r told.0, not_standing d sound s r told.1),
          λ b.
              let t : k ≡ true = route_has d sound r b.0 in
              let n : u ≡ false = false_from_ne_true u b.1 in
              λ i. release_answer_by (t i) (n i) f,
        );
        path_occupied = (
          λ g.
              let told = occupied_release k u f g in
              let h : HasRoute d r = route_known d sound r told.0 in
              (h, told.1, occupied_meant h told.2),
          λ b.
              let t : k ≡ true = route_has d sound r b.0 in
              let st : u ≡ true = b.1 in
              let n : f ≡ false = occupied_told b.0 b.2 in
              λ i. release_answer_by (t i) (st i) (n i),
        );
        no_other = one_of_three k u f;
      }

pub clear_refused_exactly : (d : Drawing) → SoundPlan d → ClearRefusedExactly d
clear_refused_exactly = clear_refused

pub release_refused_exactly : (d : Drawing) → SoundPlan d → ReleaseRefusedExactly d
release_refused_exactly = release_refused

pub event_refused_exactly : (d : Drawing) → SoundPlan d → EventRefusedExactly d
event_refused_exactly d sound s v x =
    let is = is_event (sheets_of d) v in (
      λ g. let told = event_refused is x g in (told.1, λ o. both_ways is told.0 (event_told d sound v o)),
      λ b.
          let no : is ≡ false = false_from_ne_true is (λ t. b.1 (event_meant d sound v t)) in
          cond-false is None (Some refusal.NotOfThePlan) no ∙ ap Some (sym b.0),
    )
