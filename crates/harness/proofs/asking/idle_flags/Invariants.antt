use Rattle.std.proofs.Common.{◌≡◌, length, take}
use Rattle.machine.specs.Machine.{idle_from}
use Rattle.harness.proofs.asking.idle_flags.Given as goal

abbrev pub invariant-loop-thread : goal.invariant-loop-thread
invariant-loop-thread l = record {
  len : length l.flags ≡ 64;
  flags : take l.thread l.flags ≡ idle_from l.history.concurrency l.history.events 0 l.thread;
}
