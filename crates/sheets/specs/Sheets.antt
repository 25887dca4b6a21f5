-- The sheets of a plan.
use Rattle.std.specs.Prelude.{ℕ, ◌-◌, Bool, true, false, cond, ◌||◌, List, [], ◌∷◌, length, map, replicate, Some, None, Option, nat_lt, slice_index}
use Rattle.std.specs.List.{range_with_len}
use Rattle.bounded.specs.declared.bounded.Bounded.{Bounded}
use Rattle.bounded.specs.Lists.{listed, empty_of, pushed}
use Rattle.layout.specs.declared.drawing.Drawing.{Drawing}
use Rattle.layout.specs.declared.element.Element.{Element}
use Rattle.layout.specs.declared.kind.Kind.TheVariants as kind
use Rattle.layout.specs.declared.kind.Marks.{Marks}
use Rattle.layout.specs.declared.route.Route.{Route}
use Rattle.layout.specs.declared.route.RouteClass.{RouteClass}
use Rattle.layout.specs.declared.route.RouteClass.TheVariants as class
use Rattle.layout.specs.Kinds.{is_signal}
use Rattle.layout.specs.Ports.{at}
use Rattle.layout.specs.Uses.{path_of}
use Rattle.sheets.specs.declared.sheet.ElementSheet.{ElementSheet}
use Rattle.sheets.specs.declared.sheet.RouteSheet.{RouteSheet}
use Rattle.sheets.specs.declared.sheet.Sheets.{Sheets}
use Rattle.sheets.specs.declared.sheet.Showing.{Showing}
use Rattle.sheets.specs.declared.sheet.Showing.TheVariants as showing
use Rattle.sheets.specs.Wants.{no_want, wants_of}
use Rattle.sheets.specs.Sections.{no_use, sections_of, known_of}
use Rattle.sheets.specs.Lists.{wanted_in, used_in}

abbrev pub showing_by : RouteClass → Bool → Showing
showing_by class.Shunting zeroed = showing.Shunting
showing_by class.Train true = showing.Slow
showing_by class.Train false = showing.Proceed

-- A shunting route shows shunting, a train route with a zero overlap slow, any other train route proceed.
abbrev pub showing_of : Route → Showing
showing_of r = showing_by r.class r.zero_overlap

abbrev pub signal_at : List Element → ℕ → Option ℕ
signal_at es e = cond (is_signal (at es e).kind) (Some e) None

-- The signal at which a path ends, if it ends at one.
abbrev pub last_signal_of : List Element → List ℕ → Option ℕ
last_signal_of es path = cond (nat_lt 0 (length path)) (signal_at es (slice_index path (length path - 1))) None

abbrev pub is_spared : Option Marks → Bool
is_spared None = false
is_spared (Some m) = m.lamp_spared

-- The lamp at the end of a route is that of its last signal; there is none with zero overlap or where the signal's lamp is spared.
abbrev pub end_lamp_of : List Element → Option ℕ → Bool → Option ℕ
end_lamp_of es None zeroed = None
end_lamp_of es (Some signal) zeroed = cond (zeroed || is_spared (at es signal).marks) None (Some signal)

-- The sheet of a route. Where there is no path, 0 stands for its start signal.
unfoldable pub sheet_of : List Element → Route → RouteSheet
sheet_of es r = record {
  showing = showing_of r;
  first = slice_index (path_of r) 0;
  last_signal = last_signal_of es (path_of r);
  end_lamp = end_lamp_of es (last_signal_of es (path_of r)) r.zero_overlap;
  wants = wants_of es r;
  wanted = wanted_in (wants_of es r);
  sections = sections_of es r;
  used = used_in (sections_of es r);
}

-- What fills the places of a list of sheets that are not in use.
unfoldable pub no_sheet : RouteSheet
no_sheet = record {
  showing = showing.Shunting;
  first = 0;
  last_signal = None;
  end_lamp = None;
  wants = replicate 96 no_want;
  wanted = empty_of 0;
  sections = replicate 64 no_use;
  used = empty_of 0;
}

-- What the acts need to know of an element.
abbrev pub element_sheet : List Element → ℕ → ElementSheet
element_sheet es e = record { kind = (at es e).kind; section = (at es e).section }

abbrev pub no_element_sheet : ElementSheet
no_element_sheet = record { kind = kind.Track; section = None }

unfoldable pub element_sheets : List Element → List ElementSheet
element_sheets es = map (element_sheet es) (range_with_len 0 96)

abbrev pub with_sheets : List Element → List Route → Bounded RouteSheet 64 → Bounded RouteSheet 64
with_sheets es [] b = b
with_sheets es (r ∷ rs) b = with_sheets es rs (pushed b (sheet_of es r))

-- The sheets of routes, in their order.
unfoldable pub route_sheets : List Element → List Route → Bounded RouteSheet 64
route_sheets es rs = with_sheets es rs (empty_of no_sheet)

-- The sheets of a drawing.
abbrev pub sheets_of : Drawing → Sheets
sheets_of d = record {
  elements = element_sheets (listed d.elements);
  known = known_of (listed d.elements);
  routes = route_sheets (listed d.elements) (listed d.routes);
}
