-- Each number of the places so far is in the others' sets too, unless that is not known.
use Rattle.std.proofs.Common.{◌≡◌, ◌<◌, ℕ, true, get_or}
use Rattle.products.specs.Products.{Has}
use Rattle.products.proofs.product.overlap_with_singleton.Given as goal

abbrev pub invariant-loop-place : goal.invariant-loop-place
invariant-loop-place l =
    l.inside ≡ true → (k n : ℕ) → k < l.place → Has (get_or l.sets k 0) n → Has (get_or l.others k 0) n
