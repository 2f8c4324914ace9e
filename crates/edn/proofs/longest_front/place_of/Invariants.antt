use Rattle.std.proofs.Common.{◌+◌, ◌≤◌, length}
use Rattle.edn.proofs.Prefixes.{AtHead}
use Rattle.edn.proofs.longest_front.place_of.Given as goal

abbrev pub invariant-elements : goal.invariant-elements
invariant-elements l = record { head : AtHead l.bytes l.owed l.rest l.best; fewer : l.owed + length l.rest ≤ length l.bytes }

abbrev pub decreases-elements : goal.decreases-elements
decreases-elements l = length l.rest
