-- The number is that of the digits so far.
use Rattle.std.proofs.Common.{length}
use Rattle.edn.proofs.Digits.{DigitsSoFar}
use Rattle.plain_events.proofs.numbers.digits.Given as goal

abbrev pub invariant-loop-more : goal.invariant-loop-more
invariant-loop-more l = DigitsSoFar 9223372036854775799 l.text l.value l.rest

abbrev pub decreases-loop-more : goal.decreases-loop-more
decreases-loop-more l = length l.rest
