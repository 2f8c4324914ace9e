use Rattle.std.proofs.Common.{length}
use Rattle.edn.proofs.Strings.{StringSoFar}
use Rattle.edn.proofs.string.string_of.Given as goal

abbrev pub invariant-loop-byte : goal.invariant-loop-byte
invariant-loop-byte l = StringSoFar l.text l.bytes.items l.rest

abbrev pub decreases-loop-byte : goal.decreases-loop-byte
decreases-loop-byte l = length l.rest
