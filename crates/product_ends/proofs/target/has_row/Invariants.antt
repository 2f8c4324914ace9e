use Rattle.std.proofs.Common.{◌<◌, ℕ, get_or, length, set}
use Rattle.products.specs.Products.{numbers_of}
use Rattle.product_ends.proofs.target.has_row.Given as goal

abbrev pub invariant-loop-at : goal.invariant-loop-at
invariant-loop-at l = (k : ℕ) → k < l.at → 0 < length (numbers_of (get_or (set l.sets l.place l.set) k 0))
