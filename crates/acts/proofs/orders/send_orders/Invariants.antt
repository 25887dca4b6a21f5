use Rattle.std.proofs.Common.{◌≡◌}
use Rattle.acts.specs.Orders.{sent}
use Rattle.acts.proofs.orders.send_orders.Given as goal

abbrev pub invariant-loop-element : goal.invariant-loop-element
invariant-loop-element g l =
    g.F.Field.meaning l.field ≡ sent l.sheets l.interlocking l.route (g.F.Field.meaning l.initial.field) l.element
