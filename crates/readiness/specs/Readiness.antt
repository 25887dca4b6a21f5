-- When a route is ready.
use Rattle.std.specs.Prelude.{ℕ, Bool, true, cond, not, ◌&&◌, ◌||◌, Some, None, Option}
use Rattle.layout.specs.declared.kind.Kind.{Kind}
use Rattle.layout.specs.declared.position.Position.{Position}
use Rattle.field.specs.Meaning.{Meaning, report_of, occupied_of, burning_of}
use Rattle.sheets.specs.declared.sheet.RouteSheet.{RouteSheet}
use Rattle.sheets.specs.declared.sheet.Sheets.{Sheets}
use Rattle.std.specs.List.{list_all}
use Rattle.sheets.specs.Reading.{route_sheet, need_of, request_of, wanted_by, used_by, element_of, moves}
use Rattle.holds.specs.declared.interlocking.Interlocking.{Interlocking}
use Rattle.holds.specs.Positions.{reports}
use Rattle.holds.specs.Holds.{held_in}
use Rattle.holds.specs.Interlockings.{hold_of}
use Rattle.holds.specs.Aspects.{permissive}

-- A point or derailer that the route itself needs is held by it and reported right. Nothing is asked here of the start signal.
abbrev pub need_met : Kind → Interlocking → Meaning → ℕ → ℕ → Option Position → Bool
need_met k i m r e None = true
need_met k i m r e (Some p) = not (moves k) || (held_in (hold_of i e) r p && reports (report_of m e) p)

-- An element shields: a point or derailer is reported in its position, a signal has its stop lamp burning.
abbrev pub shields : Kind → Meaning → ℕ → Position → Bool
shields k m e p = cond (moves k) (reports (report_of m e) p) (burning_of m e)

-- A request is granted, which is to say held by the route in the position requested, and the element shields.
abbrev pub request_met : Kind → Interlocking → Meaning → ℕ → ℕ → Option Position → Bool
request_met k i m r e None = true
request_met k i m r e (Some p) = held_in (hold_of i e) r p && shields k m e p

-- All that a route wants of an element is met.
abbrev pub want_met : Sheets → RouteSheet → Interlocking → Meaning → ℕ → ℕ → Bool
want_met t s i m r e =
    need_met (element_of t e).kind i m r e (need_of s e) && request_met (element_of t e).kind i m r e (request_of s e)

-- A section is free.
abbrev pub is_free : Meaning → ℕ → Bool
is_free m x = not (occupied_of m x)

-- The end lamp, if there is one, burns or its signal is permissive.
abbrev pub lamp_proved : Sheets → Interlocking → Meaning → Option ℕ → Bool
lamp_proved t i m None = true
lamp_proved t i m (Some e) = burning_of m e || permissive t i e

-- A route is ready: what it wants of every element is met, every section that it uses is free, and its end lamp is proved.
abbrev pub sheet_ready : Sheets → RouteSheet → Interlocking → Meaning → ℕ → Bool
sheet_ready t s i m r =
    list_all (want_met t s i m r) (wanted_by s) && (list_all (is_free m) (used_by s) && lamp_proved t i m s.end_lamp)

abbrev pub ready : Sheets → Interlocking → Meaning → ℕ → Bool
ready t i m r = sheet_ready t (route_sheet t r) i m r
