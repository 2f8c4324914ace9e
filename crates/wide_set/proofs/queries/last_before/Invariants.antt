use Rattle.std.proofs.Common.{◌≤◌, length}
use Rattle.wide_set.proofs.queries.last_before.Given as goal

abbrev pub invariant-loop-at : goal.invariant-loop-at
invariant-loop-at l = l.at ≤ length l.answers

abbrev pub decreases-loop-at : goal.decreases-loop-at
decreases-loop-at l = l.at
