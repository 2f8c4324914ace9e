use Rattle.processes.proofs.Pushing.{thread_of_current}
use Rattle.processes.proofs.Following.{busy_is_current}
use Rattle.processes.proofs.Refused.{busy_iff}
use Rattle.processes.proofs.laws.processes_are_sequential.Goals as goal

pub returns-clause-busy : goal.returns-clause-busy
returns-clause-busy c = busy_iff

pub returns-clause-current : goal.returns-clause-current
returns-clause-current c n p moves pos rule = busy_is_current n moves rule p

pub returns-clause-threads : goal.returns-clause-threads
returns-clause-threads c n t moves below = thread_of_current n t moves below
