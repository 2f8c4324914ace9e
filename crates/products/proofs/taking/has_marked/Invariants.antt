-- So far the set has no number with a mark.
use Rattle.std.proofs.Common.{None}
use Rattle.products.proofs.Leaving.{IsFound}
use Rattle.products.proofs.taking.has_marked.Given as goal

abbrev pub invariant-loop-number : goal.invariant-loop-number
invariant-loop-number l = IsFound l.set l.marks l.number None
