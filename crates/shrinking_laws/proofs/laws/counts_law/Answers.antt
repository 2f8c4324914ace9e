use Rattle.shrinking_laws.proofs.Enough.{counts_decide}
use Rattle.shrinking_laws.proofs.laws.counts_law.Goals as goal

pub returns : goal.returns
returns c marks well are = counts_decide marks well are
