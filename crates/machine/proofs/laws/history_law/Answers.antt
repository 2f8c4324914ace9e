use Rattle.machine.proofs.Pushes.{no_history}
use Rattle.machine.proofs.HistoryKept.{history_step}
use Rattle.machine.proofs.laws.history_law.Goals as goal

pub returns-clause-opening : goal.returns-clause-opening
returns-clause-opening c setup = no_history setup.concurrency

pub returns-clause-step : goal.returns-clause-step
returns-clause-step c = history_step
