-- When a route may be set.
use Rattle.std.specs.Prelude.{ℕ, Bool, true, cond, not, ◌&&◌, ◌||◌, Some, None, Option, nat_eq}
use Rattle.std.specs.Option.{option_eq}
use Rattle.layout.specs.declared.position.Position.{Position}
use Rattle.bounded.specs.Lists.{listed}
use Rattle.refusals.specs.declared.refusal.Refusal.{Refusal}
use Rattle.refusals.specs.declared.refusal.Refusal.TheVariants as refusal
use Rattle.sheets.specs.declared.sheet.RouteSheet.{RouteSheet}
use Rattle.sheets.specs.declared.sheet.Sheets.{Sheets}
use Rattle.std.specs.List.{list_all, enumerate_from}
use Rattle.sheets.specs.Reading.{need_of, on_path, uses, wanted_by, used_by}
use Rattle.holds.specs.declared.hold.Hold.{Hold}
use Rattle.holds.specs.declared.interlocking.Interlocking.{Interlocking}
use Rattle.holds.specs.Holds.{open_to}
use Rattle.holds.specs.States.{stands}
use Rattle.holds.specs.Interlockings.{hold_of, state_of}

-- The second route begins at the last signal of the first, and the first does not have the section in its path.
abbrev pub excuses : RouteSheet → RouteSheet → ℕ → Bool
excuses a b x = option_eq nat_eq a.last_signal (Some b.first) && not (on_path a x)

-- A section that the first route uses clashes with the second: the second uses it too, and neither excuses it.
abbrev pub clashes : RouteSheet → RouteSheet → ℕ → Bool
clashes a b x = uses b x && not (excuses a b x || excuses b a x)

abbrev pub clear_of : RouteSheet → RouteSheet → ℕ → Bool
clear_of a b x = not (clashes a b x)

-- No section of the first route clashes with the second.
abbrev pub apart : RouteSheet → RouteSheet → Bool
apart a b = list_all (clear_of a b) (used_by a)

-- Another route, with its number and its sheet, does not stand, or no section clashes with it.
abbrev pub admits : RouteSheet → Interlocking → ℕ → RouteSheet → Bool
admits s i q other = not (stands (state_of i q)) || apart s other

-- Every route of the plan, with its number and its sheet, admits the route.
abbrev pub all_admit : Sheets → RouteSheet → Interlocking → Bool
all_admit t s i = list_all (λ (p : ℕ × RouteSheet). admits s i p.0 p.1) (enumerate_from 0 (listed t.routes))

-- An element may be held as it is needed.
abbrev pub fits_hold : Hold → Option Position → Bool
fits_hold h None = true
fits_hold h (Some p) = open_to h p

abbrev pub fits : RouteSheet → Interlocking → ℕ → Bool
fits s i e = fits_hold (hold_of i e) (need_of s e)

abbrev pub all_fit : RouteSheet → Interlocking → Bool
all_fit s i = list_all (fits s i) (wanted_by s)

-- Why a route of the plan may not be set: it stands already; a section that it uses is used by a standing route, with no excuse;
-- an element that it needs is held in the other position. The first that applies is the answer.
abbrev pub set_refusal : Sheets → RouteSheet → ℕ → Interlocking → Option Refusal
set_refusal t s r i =
    cond (stands (state_of i r)) (Some refusal.StandsAlready)
    (cond (all_admit t s i) (cond (all_fit s i) None (Some refusal.HeldOtherwise)) (Some refusal.SectionInUse))

-- Why a route of the plan may not be cleared: it does not stand.
abbrev pub clear_refusal : ℕ → Interlocking → Option Refusal
clear_refusal r i = cond (stands (state_of i r)) None (Some refusal.NotStanding)
