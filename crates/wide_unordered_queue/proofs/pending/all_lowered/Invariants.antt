use Rattle.std.proofs.Common.{◌≡◌, map, take}
use Rattle.wide_unordered_queue.specs.Facts.{lowered}
use Rattle.wide_unordered_queue.proofs.pending.all_lowered.Given as goal

abbrev pub invariant-loop-call : goal.invariant-loop-call
invariant-loop-call l = l.list.items ≡ map (lowered l.value l.least) (take l.call-index l.pending)
