-- Each number of the places so far is in the others' sets too.
use Rattle.std.proofs.Common.{◌<◌, ℕ, get_or}
use Rattle.products.specs.Products.{Has}
use Rattle.products.proofs.product.overlap_of.Given as goal

abbrev pub invariant-loop-at : goal.invariant-loop-at
invariant-loop-at l = (k n : ℕ) → k < l.at → Has (get_or l.sets k 0) n → Has (get_or l.others k 0) n
