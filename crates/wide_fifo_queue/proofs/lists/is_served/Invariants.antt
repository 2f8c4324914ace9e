use Rattle.std.proofs.Common.{◌↔◌, drop}
use Rattle.wide_fifo_queue.specs.Facts.{IsServed}
use Rattle.wide_fifo_queue.proofs.lists.is_served.Given as goal

abbrev pub invariant-loop-at : goal.invariant-loop-at
invariant-loop-at l = IsServed l.takers l.owed ↔ IsServed (drop l.at l.takers) (drop l.at l.owed)
