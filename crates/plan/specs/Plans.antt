-- What offered bytes mean to a plan.
use Rattle.std.specs.Prelude.{ℕ, Bool, ◌&&◌, List, [], ◌∷◌, length, Some, None, Ok, Err, Result, nat_lt}
use Rattle.std.specs.Option.{is_none}
use Rattle.std.specs.Result.{result_unwrap_or}
use Rattle.bounded.specs.Lists.{listed}
use Rattle.faults.specs.declared.fault.Fault.{Fault}
use Rattle.layout.specs.declared.drawing.Drawing.{Drawing}
use Rattle.layout.specs.declared.element.Element.{Element}
use Rattle.layout.specs.declared.kind.Kind.TheVariants as kind
use Rattle.layout.specs.Drawings.{no_drawing, with_element}
use Rattle.planbytes.specs.Files.{drawn_by, unless}
use Rattle.plan.specs.Checks.{drawing_fault}

-- A drawing has an element, and passes all checks.
unfoldable pub is_sound : Drawing → Bool
is_sound d = nat_lt 0 (length (listed d.elements)) && is_none (drawing_fault d)

abbrev pub checked : Result Drawing Fault → Result Drawing Fault
checked (Ok d) = unless (drawing_fault d) (Ok d)
checked (Err f) = Err f

-- What offered bytes mean: a drawing that passes all checks, or the first fault.
unfoldable pub reading : List ℕ → Result Drawing Fault
reading bs = checked (drawn_by bs)

-- The drawing of a plan after a reading: the old one where there is a fault.
abbrev pub drawing_after : Result Drawing Fault → Drawing → Drawing
drawing_after = result_unwrap_or

-- A plan end joined to another one.
abbrev pub end_to : ℕ → Element
end_to n = record { kind = kind.PlanEnd; joins = Some (record { element = n; port = 0 }) ∷ None ∷ None ∷ []; section = None; dual = None; sort = None; marks = None }

-- Two plan ends joined to each other, and no route.
abbrev pub fresh_drawing : Drawing
fresh_drawing = with_element (with_element no_drawing (end_to 1)) (end_to 0)
