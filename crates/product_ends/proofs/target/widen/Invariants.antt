use Rattle.std.proofs.Common.{◌≡◌, ◌<◌, ℕ, length, get_or}
use Rattle.product_ends.specs.Widening.{IsWidened}
use Rattle.product_ends.proofs.target.widen.Given as goal

abbrev pub invariant-loop-at : goal.invariant-loop-at
invariant-loop-at l =
    (length l.next.items ≡ length l.sets)
    × ((k : ℕ) → k < l.at → IsWidened (get_or l.stays k 0) (get_or l.sets k 0) (get_or l.next.items k 0))

abbrev pub invariant-loop-past : goal.invariant-loop-past
invariant-loop-past l =
    (length l.next.items ≡ length l.sets)
    × ((k : ℕ) → k < l.past → IsWidened (get_or l.stays k 0) (get_or l.sets k 0) (get_or l.next.items k 0))
