-- What is asked of every element: the tests.
use Rattle.std.specs.Prelude.{ℕ, Bool, true, false, not, ◌&&◌, ◌||◌, List, length, is_some, Some, None, Option, ◌==◌, nat_lt}
use Rattle.std.specs.Bool.{beq}
use Rattle.std.specs.Option.{is_none}
use Rattle.layout.specs.declared.element.Element.{Element}
use Rattle.layout.specs.declared.element.Join.{Join}
use Rattle.layout.specs.declared.kind.Sort.{Sort}
use Rattle.layout.specs.declared.kind.Sort.TheVariants as sort
use Rattle.layout.specs.Every.{every}
use Rattle.layout.specs.Kinds.{ports, is_sectioned, is_point, is_signal}
use Rattle.layout.specs.Ports.{at, join_of}
use Rattle.flank.specs.Signals.{is_requested}

-- A port is joined exactly if the kind has it.
abbrev pub is_join_its_own : Element → ℕ → Bool
is_join_its_own e p = beq (is_some (join_of e p)) (nat_lt p (ports e.kind))

-- A join for each port of the kind, and no other.
abbrev pub are_joins_its_own : Element → Bool
are_joins_its_own e = every (is_join_its_own e) 3 0

-- Tracks, points and derailers have a section and nothing else has; signals have a sort and nothing else has.
abbrev pub are_fields_needed : Element → Bool
are_fields_needed e = beq (is_some e.section) (is_sectioned e.kind) && beq (is_some e.sort) (is_signal e.kind)

-- Only a point may have the dual field, only a signal marks.
abbrev pub are_fields_allowed : Element → Bool
are_fields_allowed e = (is_none e.dual || is_point e.kind) && (is_none e.marks || is_signal e.kind)

-- Sections are numbered 0 to 63. Bytes are read so already; it is asked here too, so that every plan says it of itself.
abbrev pub is_section_low : Option ℕ → Bool
is_section_low None = true
is_section_low (Some s) = nat_lt s 64

-- An element has the fields of its kind, and no other.
abbrev pub has_its_fields : Element → Bool
has_its_fields e = are_joins_its_own e && (are_fields_needed e && (are_fields_allowed e && is_section_low e.section))

-- A join goes to this port of this element.
abbrev pub goes_to : Option Join → ℕ → ℕ → Bool
goes_to None e p = false
goes_to (Some j) e p = j.element == e && j.port == p

-- The port p of the element e, if joined, is joined to a port that another element of the drawing has, and that is joined back.
abbrev pub is_join_sound : List Element → ℕ → ℕ → Option Join → Bool
is_join_sound es e p None = true
is_join_sound es e p (Some j) =
    nat_lt j.element (length es)
    && (nat_lt j.port (ports (at es j.element).kind)
    && (not (j.element == e)
    && goes_to (join_of (at es j.element) j.port) e p))

-- Two joins do not go to the same element.
abbrev pub are_apart : Option Join → Option Join → Bool
are_apart None k = true
are_apart (Some j) None = true
are_apart (Some j) (Some k) = not (j.element == k.element)

-- The join of a port does not go to the same element as the join of a port before it.
abbrev pub is_apart : Element → ℕ → Bool
is_apart e p = every (λ q. are_apart (join_of e q) (join_of e p)) p 0

-- The join of a port is sound, and apart from those before it.
abbrev pub is_port_sound : List Element → ℕ → ℕ → Bool
is_port_sound es e p = is_join_sound es e p (join_of (at es e) p) && is_apart (at es e) p

-- The joins of an element are sound, and no two go to the same element.
abbrev pub are_joins_sound : List Element → ℕ → Bool
are_joins_sound es e = every (is_port_sound es e) 3 0

abbrev pub is_entry : Option Sort → Bool
is_entry None = false
is_entry (Some sort.Shunting) = false
is_entry (Some sort.Train) = false
is_entry (Some sort.Entry) = true

-- An entry signal is not marked as requested at a flank.
abbrev pub is_entry_unmarked : Element → Bool
is_entry_unmarked e = not (is_entry e.sort && is_requested e.marks)
