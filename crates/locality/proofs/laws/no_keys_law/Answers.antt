use Rattle.locality.proofs.BadKeys.{IsJoin-none}
use Rattle.locality.proofs.laws.no_keys_law.Goals as goal

pub returns : goal.returns
returns c = IsJoin-none
