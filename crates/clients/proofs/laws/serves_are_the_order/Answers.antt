use Rattle.machine.specs.Machine.{opening}
use Rattle.board.specs.CoreTape.{calls_on}
use Rattle.clients.proofs.TapeRuns.{tape_run}
use Rattle.clients.proofs.laws.serves_are_the_order.Goals as goal

pub returns-clause-order : goal.returns-clause-order
returns-clause-order c = λ setup tape m strict count opens trial leads.
    c.no_false_alarm.ensures.order setup (calls_on tape) m strict count trial (tape_run (opening setup) m tape opens leads)

pub returns-clause-verdict : goal.returns-clause-verdict
returns-clause-verdict c = λ setup tape m key index strict count opens trial leads.
    c.no_false_alarm.ensures.verdict setup (calls_on tape) m key index strict count trial (tape_run (opening setup) m tape opens leads)
