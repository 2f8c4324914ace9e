use Rattle.std.proofs.Common.{refl}
use Rattle.buckets.specs.Index.{hash_bucket}
use Rattle.buckets.proofs.bucketed.U64Bucketed.bucket.Goals as goal

pub returns-clause-is : goal.returns-clause-is
unfolding hash_bucket
returns-clause-is c = refl
