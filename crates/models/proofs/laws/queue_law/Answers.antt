use Rattle.models.proofs.Tables.{given_back_in_order}
use Rattle.models.proofs.laws.queue_law.Goals as goal

pub returns : goal.returns
returns c = given_back_in_order
