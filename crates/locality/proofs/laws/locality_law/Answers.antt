use Rattle.locality.proofs.Locality.{IsLinearizable-keys}
use Rattle.locality.proofs.laws.locality_law.Goals as goal

pub returns : goal.returns
returns c = IsLinearizable-keys
