use Rattle.std.proofs.Common.{arith}
use Rattle.std.proofs.lemmas.Grind.{common_steps}
use Rattle.buckets.proofs.Indexing.{one_behind}
use Rattle.buckets.proofs.index.put_behind.Goals as goal

pub returns-clause-index : goal.returns-clause-index
returns-clause-index g c = grind (arith, common_steps, one_behind)
