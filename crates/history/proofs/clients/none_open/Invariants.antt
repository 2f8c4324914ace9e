use Rattle.std.proofs.Common.{◌≡◌, ℕ, ◌<◌, Some, None, length, slice_get}
use Rattle.history.proofs.clients.none_open.Given as goal

abbrev pub invariant-loop-thread : goal.invariant-loop-thread
invariant-loop-thread l = record {
  number : length l.opened.items ≡ l._thread;
  none : (t : ℕ) → t < l._thread → slice_get l.opened.items t ≡ Some None;
}
