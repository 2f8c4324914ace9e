-- The bytes so far may stand in a name.
use Rattle.std.proofs.Common.{◌≤◌, ◌-◌, length, take}
use Rattle.plain_events.specs.Keys.{AreNameBytes}
use Rattle.plain_events.proofs.keys.name_bytes.Given as goal

abbrev pub invariant-loop-n : goal.invariant-loop-n
invariant-loop-n l = record { within : l.n ≤ length l.text; inside : AreNameBytes (take l.n l.text) }

abbrev pub decreases-loop-n : goal.decreases-loop-n
decreases-loop-n l = length l.text - l.n
