use Rattle.std.proofs.Common.{◌<◌, ◌⊎◌, ℕ, List, length}
use Rattle.std.specs.List.{All}
use Rattle.checkpoints.specs.KeyLineView.{KeyLineView}
use Rattle.parallel_recheck.specs.Placed.{IsAmong, HasPlace, AreSlotsOf, IsFilled}
use Rattle.parallel_recheck.proofs.workers.fill.Given as goal

abbrev pub decreases-loop-next : goal.decreases-loop-next
decreases-loop-next l = length l.placed.items

abbrev pub invariant-loop-next : goal.invariant-loop-next
invariant-loop-next l = record {
  within : All (λ p. p.place < length l.slots) l.placed.items;
  slots : (lines : List KeyLineView) → AreSlotsOf lines l.fn.slots → All (IsAmong lines) l.fn.placed.items
      → AreSlotsOf lines l.slots × All (IsAmong lines) l.placed.items;
  filled : (place : ℕ) → HasPlace l.fn.placed.items place → HasPlace l.placed.items place ⊎ IsFilled l.slots place;
}
