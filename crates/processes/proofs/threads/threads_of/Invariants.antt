use Rattle.std.proofs.Common.{◌≡◌, ℕ, ◌<◌, Some, [], length, slice_get}
use Rattle.processes.specs.Threads.{thread_after}
use Rattle.processes.proofs.threads.threads_of.Given as goal

abbrev pub invariant-loop-process : goal.invariant-loop-process
invariant-loop-process l = record {
  len : length l.threads.items ≡ l.process;
  each : (t : ℕ) → t < l.process → slice_get l.threads.items t ≡ Some (thread_after l.concurrency [] t);
}
