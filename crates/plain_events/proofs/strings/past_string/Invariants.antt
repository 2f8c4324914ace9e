-- The rest of the string is behind the part that was read.
use Rattle.std.proofs.Common.{length}
use Rattle.plain_events.proofs.Runs.{StringSoFar}
use Rattle.plain_events.proofs.strings.past_string.Given as goal

abbrev pub invariant-runs : goal.invariant-runs
invariant-runs l = StringSoFar l.text l.rest

abbrev pub decreases-runs : goal.decreases-runs
decreases-runs l = length l.rest
