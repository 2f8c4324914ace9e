-- So far they are the same, but at the one place, if there is one.
use Rattle.std.proofs.Common.{◌≡◌, ◌≢◌, ◌<◌, ℕ, get_or}
use Rattle.products.proofs.product.joined_at.Given as goal

abbrev pub invariant-loop-place : goal.invariant-loop-place
invariant-loop-place l = (k : ℕ) → k < l.place → k ≢ l.at → get_or l.sets k 0 ≡ get_or l.others k 0
