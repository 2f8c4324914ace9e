use Rattle.std.proofs.Common.{◌-◌, length}
use Rattle.witness.specs.KeyOrders.{FindsUpTo}
use Rattle.witness.proofs.ByKeys.{AreApart}
use Rattle.witness.proofs.keys.first_mismatch.Given as goal

abbrev pub invariant-keys : goal.invariant-keys
invariant-keys l = record {
  apart : AreApart l.sorted.items l.start;
  found : FindsUpTo l.kind l.events l.statuses l.fn.found l.sorted.items l.start l.first;
}

abbrev pub decreases-keys : goal.decreases-keys
decreases-keys l = length l.sorted.items - l.start
