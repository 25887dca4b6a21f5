-- The fields of element records and route records, read byte by byte.
use Rattle.std.specs.Prelude.{ℕ, Bool, cond, [], ◌∷◌, Some, None, Ok, Option, is_some, option_map}
use Rattle.std.specs.Option.{option_map_or}
use Rattle.bits.specs.Bits.{bit}
use Rattle.bounded.specs.declared.bounded.Bounded.{Bounded}
use Rattle.bounded.specs.Lists.{empty_of}
use Rattle.layout.specs.declared.element.Element.{Element}
use Rattle.layout.specs.declared.element.Join.{Join}
use Rattle.layout.specs.declared.kind.Kind.{Kind}
use Rattle.layout.specs.declared.kind.Kind.TheVariants as kind
use Rattle.layout.specs.declared.kind.Dual.{Dual}
use Rattle.layout.specs.declared.kind.Sort.{Sort}
use Rattle.layout.specs.declared.kind.Marks.{Marks}
use Rattle.layout.specs.declared.route.Route.{Route}
use Rattle.layout.specs.declared.route.RouteClass.{RouteClass}
use Rattle.layout.specs.declared.route.RouteClass.TheVariants as class
use Rattle.layout.specs.Numbers.{kind_of, dual_of, sort_of, marks_of, class_of}
use Rattle.planbytes.specs.Bytes.{Read, and_then, byte_at, byte_in}
use Rattle.planbytes.specs.Items.{items_at}

-- A field that is there only where a test holds.
abbrev pub read_if : {X : Type 0} → Bool → Read X → Read (Option X)
read_if there read bs = cond there (and_then (read bs) (λ x cs. Ok (Some x, cs))) (Ok (None, bs))

-- A field of one byte from low to high, there only where its bit stands.
abbrev pub number_if : ℕ → ℕ → ℕ → ℕ → Read (Option ℕ)
number_if map place low high = read_if (bit map place) (byte_in low high)

-- A join: any element number, then a port.
abbrev pub join_at : Read Join
join_at bs = and_then (byte_at bs) (λ e cs. and_then (byte_in 0 2 cs) (λ t ds. Ok (record { element = e; port = t }, ds)))

-- A join, there only where its bit stands.
abbrev pub join_if : ℕ → ℕ → Read (Option Join)
join_if map place = read_if (bit map place) join_at

-- No kind field means a track.
abbrev pub kind_in : Option ℕ → Kind
kind_in n = option_map_or kind_of n kind.Track

abbrev pub dual_in : Option ℕ → Option Dual
dual_in = option_map dual_of

abbrev pub sort_in : Option ℕ → Option Sort
sort_in = option_map sort_of

abbrev pub marks_in : Option ℕ → Option Marks
marks_in = option_map marks_of

-- An element record: a map, then the fields whose bits stand, in the order of the bits.
abbrev pub element_at : Read Element
element_at bs =
    and_then (byte_at bs) (λ m bs₀.
    and_then (number_if m 0 1 4 bs₀) (λ k bs₁.
    and_then (join_if m 1 bs₁) (λ a bs₂.
    and_then (join_if m 2 bs₂) (λ b bs₃.
    and_then (join_if m 3 bs₃) (λ c bs₄.
    and_then (number_if m 4 0 63 bs₄) (λ n bs₅.
    and_then (number_if m 5 0 2 bs₅) (λ d bs₆.
    and_then (number_if m 6 0 2 bs₆) (λ s bs₇.
    and_then (number_if m 7 1 3 bs₇) (λ w bs₈.
    Ok (record { kind = kind_in k; joins = a ∷ b ∷ c ∷ []; section = n; dual = dual_in d; sort = sort_in s; marks = marks_in w }, bs₈))))))))))

-- A list of element numbers: a count from low to high, then as many bytes.
abbrev pub numbers_at : {N : ℕ} → ℕ → ℕ → Read (Bounded ℕ N)
numbers_at low high bs = and_then (byte_in low high bs) (λ n cs. items_at byte_at n (empty_of 0) cs)

-- A list of element numbers, there only where its bit stands.
abbrev pub numbers_if : {N : ℕ} → ℕ → ℕ → ℕ → ℕ → Read (Option (Bounded ℕ N))
numbers_if map place low high = read_if (bit map place) (numbers_at low high)

-- No class field means a shunting route.
abbrev pub class_in : Option ℕ → RouteClass
class_in n = option_map_or class_of n class.Shunting

-- A route record: a map of four bits, then the fields whose bits stand, in the order of the bits.
abbrev pub route_at : Read Route
route_at bs =
    and_then (byte_in 0 15 bs) (λ m bs₀.
    and_then (number_if m 0 1 1 bs₀) (λ c bs₁.
    and_then (numbers_if m 1 3 24 bs₁) (λ w bs₂.
    and_then (numbers_if m 2 1 8 bs₂) (λ v bs₃.
    and_then (number_if m 3 1 1 bs₃) (λ z bs₄.
    Ok (record { class = class_in c; path = w; overlap = v; zero_overlap = is_some z }, bs₄))))))
