-- When a clear and a release are accepted.
use Rattle.std.proofs.Common.{◌≡◌, ℕ, true, false, cond, ◌&&◌, Some, None, ◌∙◌, ⊎_elim}
use Rattle.std.proofs.lemmas.Bool.{cases_Bool, and_cases, and_left, and_right, or_left, both_ways, not-true, not_from_false, cond-true}
use Rattle.field.specs.Meaning.{Meaning, occupied_of}
use Rattle.refusals.specs.declared.refusal.Refusal.TheVariants as refusal
use Rattle.sheets.specs.declared.sheet.RouteSheet.{RouteSheet}
use Rattle.sheets.specs.declared.sheet.Sheets.{Sheets}
use Rattle.sheets.specs.Reading.{route_sheet, has_route, use_of, on_path, used_by}
use Rattle.holds.specs.States.{stands}
use Rattle.holds.specs.Interlockings.{state_of}
use Rattle.holds.specs.Refusing.{clear_refusal}
use Rattle.acts.specs.declared.act.Act.TheVariants as act
use Rattle.acts.specs.Situations.{Situation}
use Rattle.acts.specs.Answers.{path_free_at, path_free, release_refusal, answer}
use Rattle.runlaws.specs.Lawful.{Lawful}
use Rattle.runlaws.specs.SheetLaw.{Standing}
use Rattle.runlaws.proofs.Lists.{list_all_each, list_all_from}
use Rattle.runlaws.proofs.Coherent.{passes_test}

pub clear_told : (t : Sheets) (s : Situation) (r : ℕ) → answer t s (act.Clear r) ≡ None → (has_route t r ≡ true) × Standing s r
clear_told t s r h =
    let known = passes_test (has_route t r) (clear_refusal r s.inner) refusal.NoSuchRoute h in
    (known.0, (passes_test (stands (state_of s.inner r)) None refusal.NotStanding known.1).0)

pub clear_from : (t : Sheets) (s : Situation) (r : ℕ) → has_route t r ≡ true → Standing s r → answer t s (act.Clear r) ≡ None
clear_from t s r route up =
    cond-true (has_route t r) (clear_refusal r s.inner) (Some refusal.NoSuchRoute) route
    ∙ cond-true (stands (state_of s.inner r)) None (Some refusal.NotStanding) up

-- the sections on the path of a sheet are free
abbrev pub PathFree : RouteSheet → Meaning → Type 0
PathFree sheet m = (x : ℕ) → on_path sheet x ≡ true → occupied_of m x ≡ false

pub path_told : (t : Sheets) → Lawful t → (m : Meaning) (r : ℕ) → has_route t r ≡ true → path_free (route_sheet t r) m ≡ true → PathFree (route_sheet t r) m
path_told t law m r route free x on =
    let sheet = route_sheet t r in
    let listed = (law.used r x route (or_left (use_of sheet x).path (use_of sheet x).overlap on)).1 in
    let clean = not-true (on_path sheet x && occupied_of m x) (list_all_each (path_free_at sheet m) (used_by sheet) free x listed) in
    ⊎_elim
    (λ (off : on_path sheet x ≡ false). absurd (both_ways (on_path sheet x) off on))
    (λ (f : occupied_of m x ≡ false). f)
    (and_cases (on_path sheet x) (occupied_of m x) clean)

pub path_from : (sheet : RouteSheet) (m : Meaning) → PathFree sheet m → path_free sheet m ≡ true
path_from sheet m free =
    list_all_from (path_free_at sheet m) (used_by sheet)
    (λ x _.
    not_from_false (on_path sheet x && occupied_of m x)
    (⊎_elim
    (λ (on : on_path sheet x ≡ true). and_right (on_path sheet x) (occupied_of m x) (free x on))
    (λ (off : on_path sheet x ≡ false). and_left (on_path sheet x) (occupied_of m x) off)
    (cases_Bool (on_path sheet x))))

pub release_told :
    (t : Sheets) → Lawful t → (s : Situation) (r : ℕ) → answer t s (act.Release r) ≡ None
    → (has_route t r ≡ true) × Standing s r × PathFree (route_sheet t r) s.meant
release_told t law s r h =
    let sheet = route_sheet t r in
    let known = passes_test (has_route t r) (release_refusal sheet r s.inner s.meant) refusal.NoSuchRoute h in
    let up = passes_test (stands (state_of s.inner r)) (cond (path_free sheet s.meant) None (Some refusal.PathOccupied)) refusal.NotStanding known.1 in
    let free = passes_test (path_free sheet s.meant) None refusal.PathOccupied up.1 in
    (known.0, up.0, path_told t law s.meant r known.0 free.0)

pub release_from :
    (t : Sheets) (s : Situation) (r : ℕ) → has_route t r ≡ true → Standing s r → PathFree (route_sheet t r) s.meant
    → answer t s (act.Release r) ≡ None
release_from t s r route up free =
    let sheet = route_sheet t r in
    cond-true (has_route t r) (release_refusal sheet r s.inner s.meant) (Some refusal.NoSuchRoute) route
    ∙ (cond-true (stands (state_of s.inner r)) (cond (path_free sheet s.meant) None (Some refusal.PathOccupied)) (Some refusal.NotStanding) up
    ∙ cond-true (path_free sheet s.meant) None (Some refusal.PathOccupied) (path_from sheet s.meant free))
