-- Short lists of the numbers that a sheet is concerned with.
use Rattle.std.specs.Prelude.{ℕ, zero, suc, Bool, cond, ◌||◌, List, is_some, slice_index_or}
use Rattle.bounded.specs.declared.bounded.Bounded.{Bounded}
use Rattle.bounded.specs.Lists.{empty_of, pushed}
use Rattle.sheets.specs.declared.sheet.SectionUse.{SectionUse}
use Rattle.sheets.specs.declared.sheet.Want.{Want}
use Rattle.sheets.specs.Wants.{no_want}
use Rattle.sheets.specs.Sections.{no_use}

-- A list with one number more, if it passes a test.
abbrev pub pushed_if : {N : ℕ} → Bool → Bounded ℕ N → ℕ → Bounded ℕ N
pushed_if passes b n = cond passes (pushed b n) b

-- The numbers below n that pass a test, ascending.
unfoldable pub numbers_where : {N : ℕ} → (ℕ → Bool) → ℕ → Bounded ℕ N
numbers_where test zero = empty_of 0
numbers_where test (suc n) = pushed_if (test n) (numbers_where test n) n

-- Something is wanted of an element.
abbrev pub is_wanted : Want → Bool
is_wanted w = is_some w.need || is_some w.request

-- The elements of which something is wanted.
abbrev pub wanted_in : List Want → Bounded ℕ 96
wanted_in wants = numbers_where (λ (e : ℕ). is_wanted (slice_index_or wants e no_want)) 96

-- A section is used in the path or in the overlap.
abbrev pub is_used : SectionUse → Bool
is_used u = u.path || u.overlap

-- The sections that are used.
abbrev pub used_in : List SectionUse → Bounded ℕ 64
used_in uses = numbers_where (λ (s : ℕ). is_used (slice_index_or uses s no_use)) 64
