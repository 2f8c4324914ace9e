use Rattle.jepmon.proofs.orders.ended.Goals as goal

pub returns : goal.returns
returns g c = rw c.from.ensures (c.order_given-given.result, c.order_given-given.ensures.given, c.status_given-status.ensures)
