-- A plan file, read byte by byte in the order of its bytes, to the first fault.
use Rattle.std.specs.Prelude.{ℕ, List, Some, None, Ok, Err, Option, Result}
use Rattle.faults.specs.declared.fault.Fault.{Fault}
use Rattle.layout.specs.declared.drawing.Drawing.{Drawing}
use Rattle.layout.specs.Drawings.{no_drawing}
use Rattle.planbytes.specs.Bytes.{and_then, byte_in, left_over}
use Rattle.planbytes.specs.Fields.{element_at, route_at}
use Rattle.planbytes.specs.Items.{items_at}

-- A value, unless there is a fault.
abbrev pub unless : {X : Type 0} → Option Fault → Result X Fault → Result X Fault
unless None r = r
unless (Some f) r = Err f

-- The number of elements, 1 to 96, and of routes, 0 to 64; the elements; the routes; and no byte more.
abbrev pub drawn_by : List ℕ → Result Drawing Fault
drawn_by bs =
    and_then (byte_in 1 96 (bs, 0)) (λ n bs₀.
    and_then (byte_in 0 64 bs₀) (λ m bs₁.
    and_then (items_at element_at n no_drawing.elements bs₁) (λ es bs₂.
    and_then (items_at route_at m no_drawing.routes bs₂) (λ rs bs₃.
    unless (left_over bs₃) (Ok (record { elements = es; routes = rs }))))))
