-- The numbers of kinds, preferences, sorts, marks and classes in a plan file, and of positions.
use Rattle.std.specs.Prelude.{ℕ, ◌/◌, ◌%◌, cond, ◌==◌, Some, None, Option}
use Rattle.layout.specs.declared.kind.Kind.{Kind}
use Rattle.layout.specs.declared.kind.Kind.TheVariants as kind
use Rattle.layout.specs.declared.kind.Dual.{Dual}
use Rattle.layout.specs.declared.kind.Dual.TheVariants as dual
use Rattle.layout.specs.declared.kind.Sort.{Sort}
use Rattle.layout.specs.declared.kind.Sort.TheVariants as sort
use Rattle.layout.specs.declared.kind.Marks.{Marks}
use Rattle.layout.specs.declared.position.Position.{Position}
use Rattle.layout.specs.declared.position.Position.TheVariants as position
use Rattle.layout.specs.declared.route.RouteClass.{RouteClass}
use Rattle.layout.specs.declared.route.RouteClass.TheVariants as class

abbrev pub position_number : Position → ℕ
position_number position.Plus = 0
position_number position.Minus = 1

-- The position with a number; any other number is none's.
abbrev pub position_with : ℕ → Option Position
position_with n = cond (n == position_number position.Plus) (Some position.Plus) (cond (n == position_number position.Minus) (Some position.Minus) None)

abbrev pub kind_number : Kind → ℕ
kind_number kind.Track = 0
kind_number kind.Point = 1
kind_number kind.Derailer = 2
kind_number kind.Signal = 3
kind_number kind.PlanEnd = 4

-- The kind with a number; the last one where no kind has it.
abbrev pub kind_of : ℕ → Kind
kind_of n =
    cond (n == kind_number kind.Track) kind.Track
    (cond (n == kind_number kind.Point) kind.Point
    (cond (n == kind_number kind.Derailer) kind.Derailer
    (cond (n == kind_number kind.Signal) kind.Signal kind.PlanEnd)))

abbrev pub dual_number : Dual → ℕ
dual_number dual.NoPreference = 0
dual_number dual.PrefersPlus = 1
dual_number dual.PrefersMinus = 2

-- The preference with a number; the last one where none has it.
abbrev pub dual_of : ℕ → Dual
dual_of n =
    cond (n == dual_number dual.NoPreference) dual.NoPreference
    (cond (n == dual_number dual.PrefersPlus) dual.PrefersPlus dual.PrefersMinus)

abbrev pub sort_number : Sort → ℕ
sort_number sort.Shunting = 0
sort_number sort.Train = 1
sort_number sort.Entry = 2

-- The sort with a number; the last one where none has it.
abbrev pub sort_of : ℕ → Sort
sort_of n =
    cond (n == sort_number sort.Shunting) sort.Shunting
    (cond (n == sort_number sort.Train) sort.Train sort.Entry)

-- Marks are a sum: 1 for a signal requested at a flank, 2 for one whose lamp is spared.
abbrev pub marks_of : ℕ → Marks
marks_of n = record { requested = (n % 2 == 1); lamp_spared = (n / 2 % 2 == 1) }

-- A shunting route, whose number is 0, is told in a file by the absence of the class field.
abbrev pub class_number : RouteClass → ℕ
class_number class.Shunting = 0
class_number class.Train = 1

-- The class with a number; the last one where none has it.
abbrev pub class_of : ℕ → RouteClass
class_of n = cond (n == class_number class.Shunting) class.Shunting class.Train
