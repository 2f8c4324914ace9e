use Rattle.models.proofs.Tables.{cas_takes_place}
use Rattle.models.proofs.laws.cas_law.Goals as goal

pub returns : goal.returns
returns c = cas_takes_place
