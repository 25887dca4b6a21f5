-- What the sheets of a checked plan have, and all that the law over runs asks of them.
use Rattle.std.specs.Prelude.{◌≡◌, ℕ, ◌<◌, ◌≤◌, true, false, ◌≢◌, Some}
use Rattle.layout.specs.declared.position.Position.{Position}
use Rattle.walks.specs.Exactly.{In}
use Rattle.sheets.specs.declared.sheet.Sheets.{Sheets}
use Rattle.sheets.specs.Reading.{route_count, route_sheet, has_route, need_of, request_of, on_path, uses, wanted_by, used_by}

-- Route a uses section x, in its path or in its overlap.
abbrev pub Uses : Sheets → ℕ → ℕ → Type 0
Uses t a x = uses (route_sheet t a) x ≡ true

-- Route b begins at the last signal of route a, and a does not have section x in its path.
abbrev pub Excused : Sheets → ℕ → ℕ → ℕ → Type 0
Excused t a b x = ((route_sheet t a).last_signal ≡ Some (route_sheet t b).first) × (on_path (route_sheet t a) x ≡ false)

-- The elements and sections that a route is concerned with are in range and listed, and no other sections are;
-- two routes that begin at one signal both use a section that is not excused between them.
pub record Lawful (t : Sheets) : Type 0 where
  pub few : route_count t ≤ 64
  pub needed :
      (a e : ℕ) (p : Position) → has_route t a ≡ true → need_of (route_sheet t a) e ≡ Some p
      → (e < 96) × In e (wanted_by (route_sheet t a))
  pub requested :
      (a e : ℕ) (p : Position) → has_route t a ≡ true → request_of (route_sheet t a) e ≡ Some p
      → (e < 96) × In e (wanted_by (route_sheet t a))
  pub used : (a x : ℕ) → has_route t a ≡ true → Uses t a x → (x < 64) × In x (used_by (route_sheet t a))
  pub listed : (a x : ℕ) → has_route t a ≡ true → In x (used_by (route_sheet t a)) → Uses t a x
  pub starts :
      (a b : ℕ) → has_route t a ≡ true → has_route t b ≡ true → a ≢ b → (route_sheet t a).first ≡ (route_sheet t b).first
      → (x : ℕ) × (Uses t a x × Uses t b x × (Excused t a b x → ⊥) × (Excused t b a x → ⊥))
