use Rattle.linspec.proofs.BlownQueue.{verdict_unknown}
use Rattle.linspec.proofs.laws.unknown_law.Goals as goal

pub returns : goal.returns
returns c = verdict_unknown
