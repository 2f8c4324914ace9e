use Rattle.machine.proofs.Worked.{done_trial, lost_trial, refused_trial}
use Rattle.machine.proofs.trial_laws.trials_law.Goals as goal

pub returns-clause-done : goal.returns-clause-done
returns-clause-done c = done_trial

pub returns-clause-lost : goal.returns-clause-lost
returns-clause-lost c = lost_trial

pub returns-clause-refused : goal.returns-clause-refused
returns-clause-refused c = refused_trial
