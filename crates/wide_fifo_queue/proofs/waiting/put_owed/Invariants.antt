use Rattle.std.proofs.Common.{◌≡◌, ◌++◌, map, take}
use Rattle.wide_fifo_queue.specs.Facts.{owed_by}
use Rattle.wide_fifo_queue.proofs.waiting.put_owed.Given as goal

abbrev pub invariant-loop-at : goal.invariant-loop-at
invariant-loop-at l = l.owed.items ≡ l.initial.owed.items ++ map (owed_by l.deadline) (take l.at l.waiting)
