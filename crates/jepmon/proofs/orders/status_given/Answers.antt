use Rattle.std.proofs.Common.{refl}
use Rattle.jepmon.proofs.orders.status_given.Goals as goal

pub returns-in-Ok : goal.returns-in-Ok
returns-in-Ok g c = rw c.in-Ok.is c.carried_out.ensures

pub returns-in-Err : goal.returns-in-Err
returns-in-Err g c = rw c.in-Err.is (refl, c.status_of_stop.ensures)
