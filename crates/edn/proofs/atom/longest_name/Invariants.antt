use Rattle.std.proofs.Common.{length}
use Rattle.edn.proofs.Names.{NameSoFar}
use Rattle.edn.proofs.atom.longest_name.Given as goal

abbrev pub invariant-loop-next : goal.invariant-loop-next
invariant-loop-next l = NameSoFar l.text l.rest

abbrev pub decreases-loop-next : goal.decreases-loop-next
decreases-loop-next l = length l.rest
