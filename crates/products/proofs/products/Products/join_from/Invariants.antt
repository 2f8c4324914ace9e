-- They are as they were.
use Rattle.std.proofs.Common.{◌≡◌, ◌≤◌, length}
use Rattle.products.specs.Products.{Family}
use Rattle.products.proofs.products.Products.join_from.Given as goal

abbrev pub invariant-loop-at : goal.invariant-loop-at
invariant-loop-at l = record {
  same : ◌≡◌ {A = Family} l.self l.fn.self;
  within : l.at ≤ length l.fn.self.1;
}

abbrev pub decreases-loop-at : goal.decreases-loop-at
decreases-loop-at l = l.at
