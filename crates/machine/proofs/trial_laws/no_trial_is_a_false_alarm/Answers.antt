use Rattle.machine.specs.Trials.{entries_in}
use Rattle.machine.proofs.Pushes.{keyed, well_formed}
use Rattle.machine.proofs.Holding.{legal_order, no_alarm}
use Rattle.machine.proofs.Verdicts.{never_illegal}
use Rattle.machine.proofs.trial_laws.no_trial_is_a_false_alarm.Goals as goal

pub returns-clause-order : goal.returns-clause-order
returns-clause-order c d n kind moves m count leads = legal_order d n kind moves m count leads

pub returns-clause-linearizable : goal.returns-clause-linearizable
returns-clause-linearizable c d n kind moves m count leads = (no_alarm d n kind moves m count leads).0

pub returns-clause-verdict : goal.returns-clause-verdict
returns-clause-verdict c d n kind moves m budgets key index count leads =
    let r = no_alarm d n kind moves m count leads in
    never_illegal (λ _. kind) budgets (entries_in m) (keyed m.concurrency m.events r.1) (well_formed m.concurrency m.events r.1) r.0 key index
