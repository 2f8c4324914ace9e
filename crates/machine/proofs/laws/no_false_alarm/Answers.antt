use Rattle.machine.proofs.Moves.{ordered, linearizable, not_illegal}
use Rattle.machine.proofs.laws.no_false_alarm.Goals as goal

pub returns-clause-order : goal.returns-clause-order
returns-clause-order c setup run m strict count ok runs = ordered setup run m strict count ok runs

pub returns-clause-linearizable : goal.returns-clause-linearizable
returns-clause-linearizable c setup run m strict count ok runs = linearizable setup run m strict count ok runs

pub returns-clause-verdict : goal.returns-clause-verdict
returns-clause-verdict c setup run m key index strict count ok runs = not_illegal setup run m strict count ok runs key index
