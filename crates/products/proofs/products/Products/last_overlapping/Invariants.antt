-- No row of the product is in those that were looked at.
use Rattle.std.proofs.Common.{◌<◌, ◌≤◌, ℕ, List}
use Rattle.products.specs.Products.{IsIn, IsInAt}
use Rattle.products.proofs.products.Products.last_overlapping.Given as goal

abbrev pub invariant-loop-at : goal.invariant-loop-at
invariant-loop-at l = record {
  upto : l.at ≤ l.end;
  apart : (i : ℕ) (row : List ℕ) → l.at ≤ i → i < l.end → IsIn (l.first, l.sets) row → ¬ IsInAt l.self.1 i row;
}

abbrev pub decreases-loop-at : goal.decreases-loop-at
decreases-loop-at l = l.at
