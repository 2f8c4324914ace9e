-- So far the first things are indexed.
use Rattle.std.proofs.Common.{◌<◌, ◌-◌, length}
use Rattle.buckets.specs.Index.{Indexes}
use Rattle.buckets.proofs.index.index_all.Given as goal

abbrev pub invariant-items : goal.invariant-items
invariant-items g l = record {
  index : Indexes g.T.Bucketed.bucket l.items l.index.last.items l.index.before.items;
  few : length l.items < length l.index.last.items;
}

abbrev pub decreases-items : goal.decreases-items
decreases-items g l = length l.items - length l.index.before.items
