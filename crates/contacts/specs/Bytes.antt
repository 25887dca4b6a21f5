-- What the bits of an element's byte say, and which of them an order or a telling writes.
use Rattle.std.specs.Prelude.{ℕ, ◌+◌, Bool, true, false, cond, Some, None, Option, ◌==◌}
use Rattle.bits.specs.Bits.{bit, with_bit}
use Rattle.layout.specs.declared.position.Position.{Position}
use Rattle.layout.specs.declared.position.Position.TheVariants as position
use Rattle.layout.specs.Numbers.{position_number}
use Rattle.field.specs.declared.device.Device.{Device}
use Rattle.field.specs.Devices.{report_after}

-- The report of a plus contact and a minus contact: both or neither is no control.
abbrev pub report_shown : Bool → Bool → Option Position
report_shown true false = Some position.Plus
report_shown false true = Some position.Minus
report_shown true true = None
report_shown false false = None

-- The contacts that show a report; no control is shown by neither.
abbrev pub plus_contact : Option Position → Bool
plus_contact (Some position.Plus) = true
plus_contact (Some position.Minus) = false
plus_contact None = false

abbrev pub minus_contact : Option Position → Bool
minus_contact (Some position.Plus) = false
minus_contact (Some position.Minus) = true
minus_contact None = false

-- An order is written as the number of its position plus 1.
abbrev pub order_code : Position → ℕ
order_code p = position_number p + 1

-- The order with a code; any other code, 0 or 3, is none.
abbrev pub order_coded : ℕ → Option Position
order_coded n = cond (n == order_code position.Plus) (Some position.Plus) (cond (n == order_code position.Minus) (Some position.Minus) None)

-- The number that two bits hold, the lower one first.
abbrev pub two_bits : Bool → Bool → ℕ
two_bits low high = cond low 1 0 + cond high 2 0

-- Bits 0 and 1 are the plus contact and the minus contact, bit 2 the block, bit 3 the lamp, bits 4 and 5 the order.
-- Bits 6 and 7 say nothing.
abbrev pub report_in : ℕ → Option Position
report_in b = report_shown (bit b 0) (bit b 1)

abbrev pub blocked_in : ℕ → Bool
blocked_in b = bit b 2

abbrev pub burning_in : ℕ → Bool
burning_in b = bit b 3

abbrev pub order_in : ℕ → Option Position
order_in b = order_coded (two_bits (bit b 4) (bit b 5))

-- All that a byte says of its element.
abbrev pub device_in : ℕ → Device
device_in b = record { report = report_in b; blocked = blocked_in b; burning = burning_in b; order = order_in b }

-- A report told writes bits 0 and 1.
abbrev pub report_put : ℕ → Option Position → ℕ
report_put b r = with_bit (with_bit b 0 (plus_contact r)) 1 (minus_contact r)

-- A block told writes bit 2.
abbrev pub block_put : ℕ → Bool → ℕ
block_put b v = with_bit b 2 v

-- A lamp told writes bit 3.
abbrev pub lamp_put : ℕ → Bool → ℕ
lamp_put b v = with_bit b 3 v

-- The code of an order goes to bits 4 and 5.
abbrev pub order_put : ℕ → Position → ℕ
order_put b p = with_bit (with_bit b 4 (bit (order_code p) 0)) 5 (bit (order_code p) 1)

-- An order writes bits 4 and 5, and makes bits 0 and 1 both 0 unless the report was what is ordered.
abbrev pub byte_ordered : ℕ → Position → ℕ
byte_ordered b p = order_put (report_put b (report_after (report_in b) p)) p
