use Rattle.std.proofs.Common.{◌≡◌, ◌≤◌, ℕ, List, take, slice_get}
use Rattle.checkpoints.specs.KeyLineView.{KeyLineView}
use Rattle.parallel_recheck.specs.Placed.{AreSlotsOf}
use Rattle.parallel_recheck.proofs.workers.in_order.Given as goal

abbrev pub invariant-loop-place : goal.invariant-loop-place
invariant-loop-place l = record {
  kept : (place : ℕ) → l.place ≤ place → slice_get l.slots place ≡ slice_get l.fn.slots place;
  so_far : (lines : List KeyLineView) → AreSlotsOf lines l.fn.slots → l.lines.items ≡ take l.place lines;
}
