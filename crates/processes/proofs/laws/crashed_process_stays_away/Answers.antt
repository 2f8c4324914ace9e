use Rattle.processes.proofs.Refused.{stays_away}
use Rattle.processes.proofs.laws.crashed_process_stays_away.Goals as goal

pub returns : goal.returns
returns c = stays_away
