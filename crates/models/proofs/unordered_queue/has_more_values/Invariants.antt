use Rattle.std.proofs.Common.{◌≡◌, ◌≢◌, ◌+◌, ◌-◌, ◌<◌, ◌≤◌, ℕ, ℤ, get_or, length, take}
use Rattle.values.specs.Multisets.{values_of}
use Rattle.models.proofs.unordered_queue.has_more_values.Given as goal

abbrev pub invariant-values : goal.invariant-values
invariant-values l = record {
  within : l.at ≤ length l.state;
  counted : l.different ≡ length (values_of (take l.at l.state));
  few : l.different ≤ l.most;
  new : (p : ℕ) (d : ℤ) → p + 1 ≡ l.at → l.at < length l.state → get_or l.state p d ≢ get_or l.state l.at d;
}

abbrev pub decreases-values : goal.decreases-values
decreases-values l = length l.state - l.at
