use Rattle.machine.specs.Machine.{opening}
use Rattle.board.specs.CoreTape.{calls_on}
use Rattle.clients.proofs.TapeRuns.{tape_run}
use Rattle.clients.proofs.TrialsAlone.{run_of_trial}
use Rattle.clients.proofs.laws.no_false_alarm_in_a_run.Goals as goal

pub returns-clause-order : goal.returns-clause-order
returns-clause-order c = λ setup threads m strict count run.
    c.no_false_alarm.ensures.order setup (calls_on run.tape) m strict count (run_of_trial threads (opening setup) m run) (tape_run (opening setup) m run.tape run.opens run.leads)

pub returns-clause-linearizable : goal.returns-clause-linearizable
returns-clause-linearizable c = λ setup threads m strict count run.
    c.no_false_alarm.ensures.linearizable setup (calls_on run.tape) m strict count (run_of_trial threads (opening setup) m run) (tape_run (opening setup) m run.tape run.opens run.leads)

pub returns-clause-verdict : goal.returns-clause-verdict
returns-clause-verdict c = λ setup threads m key index strict count run.
    c.no_false_alarm.ensures.verdict setup (calls_on run.tape) m key index strict count (run_of_trial threads (opening setup) m run) (tape_run (opening setup) m run.tape run.opens run.leads)
