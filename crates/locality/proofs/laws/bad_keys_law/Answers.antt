use Rattle.locality.proofs.BadKeys.{IsJoin-same}
use Rattle.locality.proofs.laws.bad_keys_law.Goals as goal

pub returns : goal.returns
returns c = IsJoin-same
