-- The laws of orders, for every field: they speak of meanings alone.
use Rattle.std.specs.Prelude.{◌≡◌, ℕ, ◌<◌, ◌≤◌, ◌≢◌, Some}
use Rattle.layout.specs.declared.position.Position.{Position}
use Rattle.field.specs.Devices.{report_after}
use Rattle.field.specs.Meaning.{Meaning, Sized, device_of, report_of, blocked_of, burning_of, order_of, occupied_of, ordered}

-- The laws of every order: the element e is ordered to p in the meaning m.
pub record OrderLaw (m : Meaning) (e : ℕ) (p : Position) : Type 0 where
  -- it stands, and a report is left only where it is p
  pub stands : Sized m → e < 96 → order_of (ordered m e p) e ≡ Some p
  pub gives_up : Sized m → e < 96 → report_of (ordered m e p) e ≡ report_after (report_of m e) p
  -- sent again it changes nothing more
  pub again : ordered (ordered m e p) e p ≡ ordered m e p
  -- it trades places with an order to another element
  pub trades : (f : ℕ) (q : Position) → e ≢ f → ordered (ordered m e p) f q ≡ ordered (ordered m f q) e p
  -- all answers for other elements stay, and so does every block, lamp and section
  pub others : (f : ℕ) → f ≢ e → device_of (ordered m e p) f ≡ device_of m f
  pub blocks : (f : ℕ) → blocked_of (ordered m e p) f ≡ blocked_of m f
  pub lamps : (f : ℕ) → burning_of (ordered m e p) f ≡ burning_of m f
  pub sections : (s : ℕ) → occupied_of (ordered m e p) s ≡ occupied_of m s
  -- an order to no element does nothing
  pub nobody : 96 ≤ e → ordered m e p ≡ m

-- They hold of every order in every meaning.
abbrev pub OrderLaws : Type 0
OrderLaws = (m : Meaning) (e : ℕ) (p : Position) → OrderLaw m e p
