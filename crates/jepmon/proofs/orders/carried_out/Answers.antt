use Rattle.std.proofs.Common.{refl}
use Rattle.jepmon.proofs.orders.carried_out.Goals as goal

pub returns-in-Script : goal.returns-in-Script
returns-in-Script g c = rw c.in-Script.is c.script.ensures

pub returns-in-Check : goal.returns-in-Check
returns-in-Check g c = rw (c.in-Check.is, ← c.as_str-judged.ensures.value) c.check.ensures

pub returns-in-Confirm : goal.returns-in-Confirm
returns-in-Confirm g c = rw (c.in-Confirm.is, ← c.as_str-history.ensures.value, ← c.as_str-list.ensures.value) c.confirm.ensures

pub returns-in-Run : goal.returns-in-Run
returns-in-Run g c = rw c.in-Run.is (refl, c.run.ensures)
