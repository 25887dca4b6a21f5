-- Which elements are ordered, and what the field means afterwards.
use Rattle.std.specs.Prelude.{ℕ, zero, suc, Bool, true, cond, not, ◌&&◌, List, [], ◌∷◌, ◌++◌, Some, None, Option}
use Rattle.layout.specs.declared.position.Position.{Position}
use Rattle.field.specs.Meaning.{Meaning, report_of, occupied_of, blocked_of, ordered}
use Rattle.sheets.specs.declared.sheet.ElementSheet.{ElementSheet}
use Rattle.sheets.specs.declared.sheet.Sheets.{Sheets}
use Rattle.sheets.specs.Reading.{element_of, moves}
use Rattle.holds.specs.declared.interlocking.Interlocking.{Interlocking}
use Rattle.holds.specs.Positions.{reports}
use Rattle.holds.specs.Interlockings.{hold_of, held_by}

-- The section of an element, if it has one, is free.
abbrev pub section_free : Meaning → Option ℕ → Bool
section_free m None = true
section_free m (Some x) = not (occupied_of m x)

-- An element is to be ordered for a route: a point or derailer that the route holds, that does not report the position in which it is held,
-- whose section is free, and that is not blocked.
abbrev pub due : ElementSheet → Interlocking → ℕ → Meaning → ℕ → Bool
due s i r m e =
    moves s.kind &&
    (held_by i r e &&
    (not (reports (report_of m e) (hold_of i e).position) &&
    (section_free m s.section && not (blocked_of m e))))

abbrev pub sent_one : ElementSheet → Interlocking → ℕ → Meaning → ℕ → Meaning
sent_one s i r m e = cond (due s i r m e) (ordered m e (hold_of i e).position) m

-- What the field means after the orders to the first n elements, by number.
unfoldable pub sent : Sheets → Interlocking → ℕ → Meaning → ℕ → Meaning
sent t i r m zero = m
sent t i r m (suc n) = sent_one (element_of t n) i r (sent t i r m n) n

-- An order, and the list of these orders.
pub record Order : Type 0 where
  pub element : ℕ
  pub position : Position

abbrev pub order_to : Interlocking → ℕ → Order
order_to i e = record { element = e; position = (hold_of i e).position }

unfoldable pub orders : Sheets → Interlocking → ℕ → Meaning → ℕ → List Order
orders t i r m zero = []
orders t i r m (suc n) = orders t i r m n ++ cond (due (element_of t n) i r (sent t i r m n) n) (order_to i n ∷ []) []
