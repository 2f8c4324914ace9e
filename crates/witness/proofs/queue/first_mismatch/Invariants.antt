use Rattle.std.proofs.Common.{◌-◌, ◌≤◌, [], length, take}
use Rattle.models.specs.Objects.{unordered_queue}
use Rattle.witness.specs.Calls.{CanRun}
use Rattle.witness.proofs.queue.first_mismatch.Given as goal

abbrev pub invariant-halves : goal.invariant-halves
invariant-halves l = record {
  ordered : l.low ≤ l.high;
  within : l.high ≤ length l.calls;
  can_run : CanRun unordered_queue (take l.low l.calls) [];
  rejected : ¬ CanRun unordered_queue (take l.high l.calls) [];
}

abbrev pub decreases-halves : goal.decreases-halves
decreases-halves l = l.high - l.low
