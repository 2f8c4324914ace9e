use Rattle.std.proofs.Common.{◌≡◌, ◌≤ℤ◌, ◌-ℤ◌, pos, ◌++◌}
use Rattle.values.specs.Spans.{from_to, many}
use Rattle.values.proofs.spans.append_integers.Given as goal

abbrev pub invariant-loop-value : goal.invariant-loop-value
invariant-loop-value l = record {
  above : l.from ≤ℤ l.value;
  within : l.value ≤ℤ l.to;
  so_far : l.items.items ≡ l.initial.items.items ++ from_to l.from (l.value -ℤ pos 1);
}

abbrev pub decreases-loop-value : goal.decreases-loop-value
decreases-loop-value l = many l.value l.to
