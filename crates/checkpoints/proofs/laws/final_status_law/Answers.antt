use Rattle.checkpoints.proofs.Settled.{dead_settled, over_settled, settled}
use Rattle.checkpoints.proofs.laws.final_status_law.Goals as goal

pub returns-clause-dead : goal.returns-clause-dead
returns-clause-dead c = dead_settled

pub returns-clause-over : goal.returns-clause-over
returns-clause-over c = over_settled

pub returns-clause-no_other : goal.returns-clause-no_other
returns-clause-no_other c = settled
