-- The laws hold as they are proved.
use Rattle.field.proofs.OrdersLawful as lawful
use Rattle.field.proofs.orders.order_laws.Goals as goal

pub returns : goal.returns
returns c = lawful.order_laws
