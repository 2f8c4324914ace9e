use Rattle.std.proofs.Common.{◌≢◌, ◌<◌, ◌≤◌, ◌+◌, ℕ, Some, slice_get}
use Rattle.interner.proofs.founds.place_of_any.Given as goal

abbrev pub invariant-loop-behind : goal.invariant-loop-behind
invariant-loop-behind l = (i : ℕ) → l.few ≤ i + l.behind → i < l.few → slice_get l.items i ≢ Some l.found
