use Rattle.std.proofs.Common.{◌≡◌, drop}
use Rattle.wide_fifo_queue.proofs.waiting.without_passed.Given as goal

abbrev pub invariant-loop-at : goal.invariant-loop-at
invariant-loop-at l = l.row ≡ drop l.at l.waiting
