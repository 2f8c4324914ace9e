-- The rest of the name makes its mark from the mark so far.
use Rattle.std.proofs.Common.{◌≡◌, length}
use Rattle.plain_events.specs.Keys.{mark_from, mark_of}
use Rattle.plain_events.proofs.keys.mark_of.Given as goal

abbrev pub invariant-loop-first : goal.invariant-loop-first
invariant-loop-first l = mark_from l.mark l.rest ≡ mark_of l.name

abbrev pub decreases-loop-first : goal.decreases-loop-first
decreases-loop-first l = length l.rest
