-- What signals show.
use Rattle.std.specs.Prelude.{ℕ, zero, suc, Bool, true, false, cond, ◌&&◌, ◌==◌}
use Rattle.sheets.specs.declared.sheet.Sheets.{Sheets}
use Rattle.sheets.specs.declared.sheet.Showing.{Showing}
use Rattle.sheets.specs.declared.sheet.Showing.TheVariants as showing
use Rattle.sheets.specs.Reading.{route_count, route_sheet}
use Rattle.holds.specs.declared.aspect.Aspect.{Aspect}
use Rattle.holds.specs.declared.aspect.Aspect.TheVariants as aspect
use Rattle.holds.specs.declared.interlocking.Interlocking.{Interlocking}
use Rattle.holds.specs.States.{is_clear}
use Rattle.holds.specs.Interlockings.{state_of}

-- The number of each aspect.
abbrev pub aspect_number : Aspect → ℕ
aspect_number aspect.Stop = 0
aspect_number aspect.Shunting = 1
aspect_number aspect.Slow = 2
aspect_number aspect.Proceed = 3

-- All but stop are permissive.
abbrev pub permits : Aspect → Bool
permits aspect.Stop = false
permits aspect.Shunting = true
permits aspect.Slow = true
permits aspect.Proceed = true

-- The aspect of what a route shows.
abbrev pub shown : Showing → Aspect
shown showing.Shunting = aspect.Shunting
shown showing.Slow = aspect.Slow
shown showing.Proceed = aspect.Proceed

-- The route r is clear and begins at the signal e.
abbrev pub clears : Sheets → Interlocking → ℕ → ℕ → Bool
clears t i e r = is_clear (state_of i r) && (route_sheet t r).first == e

-- What a signal shows for the first n routes: that of a clear route that begins there, else stop.
unfoldable pub aspect_upto : Sheets → Interlocking → ℕ → ℕ → Aspect
aspect_upto t i e zero = aspect.Stop
aspect_upto t i e (suc n) = cond (clears t i e n) (shown (route_sheet t n).showing) (aspect_upto t i e n)

-- What a signal shows.
abbrev pub aspect_of : Sheets → Interlocking → ℕ → Aspect
aspect_of t i e = aspect_upto t i e (route_count t)

abbrev pub permissive : Sheets → Interlocking → ℕ → Bool
permissive t i e = permits (aspect_of t i e)
