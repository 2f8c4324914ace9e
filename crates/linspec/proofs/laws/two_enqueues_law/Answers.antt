use Rattle.linspec.proofs.Enqueues.{five_ends}
use Rattle.linspec.proofs.laws.two_enqueues_law.Goals as goal

pub returns-clause-five : goal.returns-clause-five
returns-clause-five c = five_ends.0

pub returns-clause-not_six : goal.returns-clause-not_six
returns-clause-not_six c = five_ends.1
