use Rattle.std.proofs.Common.{ℕ, ◌-◌, ◌<◌, ◌≤◌, pos, ◌<ℤ◌, ◌≤ℤ◌, length, get_or}
use Rattle.witness.proofs.requirement.place_of.Given as goal

abbrev pub invariant-places : goal.invariant-places
invariant-places l = record {
  below : (i : ℕ) → i < l.low → get_or l.values i (pos 0) <ℤ l.value;
  above : (i : ℕ) → l.high ≤ i → i < length l.values → l.value ≤ℤ get_or l.values i (pos 0);
  ordered : l.low ≤ l.high;
  within : l.high ≤ length l.values;
}

abbrev pub decreases-places : goal.decreases-places
decreases-places l = l.high - l.low
