-- The start and a turn of the loop over routes that finds what a signal shows.
use Rattle.std.proofs.Common.{◌≡◌, ℕ, ◌+◌, cond, refl, add-one}
use Rattle.sheets.specs.declared.sheet.Sheets.{Sheets}
use Rattle.sheets.specs.Reading.{route_sheet}
use Rattle.holds.specs.declared.interlocking.Interlocking.{Interlocking}
use Rattle.holds.specs.declared.aspect.Aspect.TheVariants as aspect
use Rattle.holds.specs.Aspects.{clears, shown, aspect_upto}

pub aspect_upto_none : (t : Sheets) (i : Interlocking) (e : ℕ) → aspect_upto t i e 0 ≡ aspect.Stop
unfolding aspect_upto
aspect_upto_none t i e = refl

pub aspect_upto_more : (t : Sheets) (i : Interlocking) (e n : ℕ)
    → aspect_upto t i e (n + 1) ≡ cond (clears t i e n) (shown (route_sheet t n).showing) (aspect_upto t i e n)
unfolding aspect_upto
aspect_upto_more t i e n = rw add-one
