use Rattle.theorem.proofs.Runs.{illegal, legal, says}
use Rattle.theorem.proofs.laws.run_law.Goals as goal

pub returns-clause-says : goal.returns-clause-says
returns-clause-says c = says c.no_false_alarm_in_a_run.ensures.linearizable

pub returns-clause-legal : goal.returns-clause-legal
returns-clause-legal c = legal

pub returns-clause-illegal : goal.returns-clause-illegal
returns-clause-illegal c = illegal
