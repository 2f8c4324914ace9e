-- From the place on no thing of this bucket is wanted, and the one just before the place is of this bucket.
use Rattle.std.proofs.Common.{length, map}
use Rattle.buckets.specs.Index.{IsPast}
use Rattle.buckets.proofs.index.find.Given as goal

abbrev pub invariant-chain : goal.invariant-chain
invariant-chain g l = IsPast (map (g.T.Bucketed.bucket (length l.index.last.items)) l.items) (λ at. goal.F-post g l.wanted at) l.its l.place

abbrev pub decreases-chain : goal.decreases-chain
decreases-chain g l = l.place
