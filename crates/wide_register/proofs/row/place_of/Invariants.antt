use Rattle.std.proofs.Common.{◌≤◌, ◌-◌, length}
use Rattle.wide_register.proofs.row.place_of.Given as goal

abbrev pub invariant-loop-at : goal.invariant-loop-at
invariant-loop-at l = l.from ≤ length l.passed → l.at ≤ length l.passed

abbrev pub decreases-loop-at : goal.decreases-loop-at
decreases-loop-at l = length l.passed - l.at
