use Rattle.std.proofs.Common.{◌≡◌, ◌≢◌, ◌+◌, ◌-◌, ◌<◌, ◌≤◌, ◌++◌, ℕ, ℤ, get_or, length, take}
use Rattle.values.specs.Multisets.{values_of}
use Rattle.models.specs.Objects.{taken_from}
use Rattle.models.proofs.unordered_queue.append_each.Given as goal

abbrev pub invariant-values : goal.invariant-values
invariant-values l = record {
  within : l.at ≤ length l.state;
  so_far : l.outcomes.items ≡ l.initial.outcomes.items ++ taken_from l.state (values_of (take l.at l.state));
  new : (p : ℕ) (d : ℤ) → p + 1 ≡ l.at → l.at < length l.state → get_or l.state p d ≢ get_or l.state l.at d;
}

abbrev pub decreases-values : goal.decreases-values
decreases-values l = length l.state - l.at
