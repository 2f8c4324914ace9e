use Rattle.std.proofs.Common.{refl}
use Rattle.wide_cas_register.proofs.next.done_behind.Goals as goal

pub returns-in-Some-clause-each : goal.returns-in-Some-clause-each
returns-in-Some-clause-each c = (c.in-Some.next, rw c.in-Some.is at c.in_ok-step.ensures.some, c.leave.ensures)

pub returns-in-Some-clause-all : goal.returns-in-Some-clause-all
returns-in-Some-clause-all c can = (c.leave.new.self, (c.in-Some.next, rw c.in-Some.is at c.in_ok-step.ensures.some, c.leave.ensures), refl)
