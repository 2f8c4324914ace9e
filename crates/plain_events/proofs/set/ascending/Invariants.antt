-- The integers so far ascend up to the last one.
use Rattle.std.proofs.Common.{length}
use Rattle.plain_events.specs.Prefixes.{AreIntegersAt}
use Rattle.plain_events.proofs.Sets.{AscendTo}
use Rattle.plain_events.proofs.set.ascending.Given as goal

abbrev pub invariant-loop-next : goal.invariant-loop-next
invariant-loop-next l = AreIntegersAt l.text l.integers.items l.rest × AscendTo l.integers.items l.last

abbrev pub decreases-loop-next : goal.decreases-loop-next
decreases-loop-next l = length l.rest
