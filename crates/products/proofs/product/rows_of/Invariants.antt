-- The rows of the places so far.
use Rattle.std.proofs.Common.{◌≡◌, ◌-◌, ◌^◌, length, min, take}
use Rattle.products.specs.Products.{rows_of_sets}
use Rattle.products.proofs.product.rows_of.Given as goal

abbrev pub invariant-loop-place : goal.invariant-loop-place
invariant-loop-place l = l.rows ≡ min (length (rows_of_sets (take l.place l.sets))) (2 ^ 64 - 1)
