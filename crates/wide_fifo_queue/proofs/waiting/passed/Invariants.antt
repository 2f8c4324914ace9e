use Rattle.std.proofs.Common.{◌<◌, ◌≤◌, ◌-◌, length, take}
use Rattle.std.specs.List.{Contains}
use Rattle.wide_fifo_queue.specs.declared.known.Waiting.{Waiting}
use Rattle.wide_fifo_queue.proofs.waiting.passed.Given as goal

abbrev pub invariant-loop-at : goal.invariant-loop-at
invariant-loop-at l = record {
  within : l.at ≤ length l.waiting;
  before : (w : Waiting) → Contains (take l.at l.waiting) w → w.by < l.since;
}

abbrev pub decreases-loop-at : goal.decreases-loop-at
decreases-loop-at l = length l.waiting - l.at
