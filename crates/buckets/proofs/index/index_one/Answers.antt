use Rattle.std.proofs.Common.{arith}
use Rattle.std.proofs.lemmas.Grind.{common_steps}
use Rattle.buckets.proofs.Indexing.{one_indexed}
use Rattle.buckets.proofs.index.index_one.Goals as goal

pub returns-clause-index : goal.returns-clause-index
returns-clause-index g c = grind (arith, common_steps, one_indexed)
