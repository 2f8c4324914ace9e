use Rattle.shrinking_laws.proofs.BagsJoined.{IsLinearizable-bags}
use Rattle.shrinking_laws.proofs.laws.bags_law.Goals as goal

pub returns : goal.returns
returns c value marks well are = IsLinearizable-bags value marks well are
