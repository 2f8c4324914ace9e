use Rattle.models.proofs.Tables.{not_acquired_twice}
use Rattle.models.proofs.laws.mutex_law.Goals as goal

pub returns : goal.returns
returns c = not_acquired_twice
