-- So far the word has what each of the sets has, and then the number found is the one with a mark.
use Rattle.std.proofs.Common.{◌≡◌, ◌<◌, ◌-◌, ℕ, Some, slice_get, get_or}
use Rattle.products.specs.Products.{Product}
use Rattle.products.proofs.Leaving.{Covers, IsFound}
use Rattle.products.proofs.taking.one_marked.Given as goal

abbrev pub invariant-loop-at : goal.invariant-loop-at
invariant-loop-at l =
    (k : ℕ) (product : Product) → k < l.at → slice_get l.other.1 k ≡ Some product → Covers l.all (get_or product.1 (l.place - 1) 0)

abbrev pub invariant-loop-number : goal.invariant-loop-number
invariant-loop-number l = IsFound l.all l.marks l.number l.found
