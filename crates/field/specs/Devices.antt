-- What is known of one element outdoors, and how an order or a telling changes it.
use Rattle.std.specs.Prelude.{Bool, true, false, Some, None, Option}
use Rattle.layout.specs.declared.position.Position.{Position}
use Rattle.layout.specs.declared.position.Position.TheVariants as position
use Rattle.field.specs.declared.device.Device.{Device}

-- What is answered of an element that is not there: no control, blocked, dark, no order.
abbrev pub unknown : Device
unknown = record { report = None; blocked = true; burning = false; order = None }

-- An element of which nothing has been heard yet. The definitions read it past the end of the devices too, where no answer shows it.
abbrev pub blank : Device
blank = record { report = None; blocked = false; burning = false; order = None }

-- What an order to a position leaves of a report: the report, if it is that position, else no control.
abbrev pub report_after : Option Position → Position → Option Position
report_after None p = None
report_after (Some position.Plus) position.Plus = Some position.Plus
report_after (Some position.Plus) position.Minus = None
report_after (Some position.Minus) position.Plus = None
report_after (Some position.Minus) position.Minus = Some position.Minus

-- An order becomes the standing order, and the report is given up unless it is what was ordered.
abbrev pub device_ordered : Device → Position → Device
device_ordered d p = record { report = report_after d.report p; blocked = d.blocked; burning = d.burning; order = Some p }

-- A telling changes what is told, and nothing else.
abbrev pub device_reporting : Device → Option Position → Device
device_reporting d r = record { report = r; blocked = d.blocked; burning = d.burning; order = d.order }

abbrev pub device_blocking : Device → Bool → Device
device_blocking d v = record { report = d.report; blocked = v; burning = d.burning; order = d.order }

abbrev pub device_burning : Device → Bool → Device
device_burning d v = record { report = d.report; blocked = d.blocked; burning = v; order = d.order }
