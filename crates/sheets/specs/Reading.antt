-- What is read off the sheets of a plan. A number that names nothing of the plan reads as nothing.
use Rattle.std.specs.Prelude.{ℕ, Bool, true, false, List, [], length, None, Option, nat_lt, slice_index_or}
use Rattle.bounded.specs.Lists.{listed}
use Rattle.layout.specs.declared.kind.Kind.{Kind}
use Rattle.layout.specs.declared.kind.Kind.TheVariants as kind
use Rattle.layout.specs.declared.position.Position.{Position}
use Rattle.sheets.specs.declared.sheet.ElementSheet.{ElementSheet}
use Rattle.sheets.specs.declared.sheet.RouteSheet.{RouteSheet}
use Rattle.sheets.specs.declared.sheet.SectionUse.{SectionUse}
use Rattle.sheets.specs.declared.sheet.Sheets.{Sheets}
use Rattle.sheets.specs.declared.sheet.Showing.TheVariants as showing
use Rattle.sheets.specs.declared.sheet.Want.{Want}
use Rattle.sheets.specs.Wants.{no_want}
use Rattle.sheets.specs.Sections.{no_use}
use Rattle.sheets.specs.Lists.{is_used}
use Rattle.sheets.specs.Sheets.{no_element_sheet}

-- What the definitions read past the end of a list of sheets; never met, since each reading is within the list.
abbrev pub past_the_end : RouteSheet
past_the_end = record {
  showing = showing.Shunting;
  first = 0;
  last_signal = None;
  end_lamp = None;
  wants = [];
  wanted = record { count = 0; places = [] };
  sections = [];
  used = record { count = 0; places = [] };
}

-- How many routes there are.
abbrev pub route_count : Sheets → ℕ
route_count t = length (listed t.routes)

-- The sheet of the route with a number.
abbrev pub route_sheet : Sheets → ℕ → RouteSheet
route_sheet t r = slice_index_or (listed t.routes) r past_the_end

-- There is a route with a number.
abbrev pub has_route : Sheets → ℕ → Bool
has_route t r = nat_lt r (route_count t)

-- What a route wants of an element: its own need, and its request.
abbrev pub want_of : RouteSheet → ℕ → Want
want_of s e = slice_index_or s.wants e no_want

abbrev pub need_of : RouteSheet → ℕ → Option Position
need_of s e = (want_of s e).need

abbrev pub request_of : RouteSheet → ℕ → Option Position
request_of s e = (want_of s e).request

-- How a route uses a section.
abbrev pub use_of : RouteSheet → ℕ → SectionUse
use_of s x = slice_index_or s.sections x no_use

abbrev pub on_path : RouteSheet → ℕ → Bool
on_path s x = (use_of s x).path

abbrev pub uses : RouteSheet → ℕ → Bool
uses s x = is_used (use_of s x)

-- The elements of which a route wants anything, and the sections that it uses.
abbrev pub wanted_by : RouteSheet → List ℕ
wanted_by s = listed s.wanted

abbrev pub used_by : RouteSheet → List ℕ
used_by s = listed s.used

-- The kind and the section of an element.
abbrev pub element_of : Sheets → ℕ → ElementSheet
element_of t e = slice_index_or t.elements e no_element_sheet

-- Points and derailers are moved by orders, and report.
abbrev pub moves : Kind → Bool
moves kind.Track = false
moves kind.Point = true
moves kind.Derailer = true
moves kind.Signal = false
moves kind.PlanEnd = false

-- Some element of the plan lies in a section.
abbrev pub has_section : Sheets → ℕ → Bool
has_section t x = slice_index_or t.known x false
