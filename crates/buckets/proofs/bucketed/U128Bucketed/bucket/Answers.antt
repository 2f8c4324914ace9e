use Rattle.std.proofs.Common.{refl}
use Rattle.buckets.specs.Index.{word_bucket}
use Rattle.buckets.proofs.bucketed.U128Bucketed.bucket.Goals as goal

pub returns-clause-is : goal.returns-clause-is
unfolding word_bucket
returns-clause-is c = refl
