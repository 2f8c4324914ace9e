-- The bytes so far spell themselves.
use Rattle.std.proofs.Common.{◌≤◌, ◌-◌, length, take}
use Rattle.plain_events.specs.Passed.{IsRun}
use Rattle.plain_events.proofs.strings.run_at.Given as goal

abbrev pub invariant-loop-n : goal.invariant-loop-n
invariant-loop-n l = record { within : l.n ≤ length l.text; inside : IsRun (take l.n l.text) }

abbrev pub decreases-loop-n : goal.decreases-loop-n
decreases-loop-n l = length l.text - l.n
