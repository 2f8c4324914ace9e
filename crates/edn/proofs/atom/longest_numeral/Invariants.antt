use Rattle.std.proofs.Common.{length}
use Rattle.edn.proofs.Digits.{DigitsSoFar}
use Rattle.edn.proofs.atom.longest_numeral.Given as goal

abbrev pub invariant-loop-more : goal.invariant-loop-more
invariant-loop-more l = DigitsSoFar l.most l.text l.value l.rest

abbrev pub decreases-loop-more : goal.decreases-loop-more
decreases-loop-more l = length l.rest
