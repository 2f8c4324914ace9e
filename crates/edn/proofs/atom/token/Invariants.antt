use Rattle.std.proofs.Common.{◌≤◌, ◌-◌, length, take}
use Rattle.edn.specs.Reading.{IsToken}
use Rattle.edn.proofs.atom.token.Given as goal

abbrev pub invariant-loop-n : goal.invariant-loop-n
invariant-loop-n l = record { within : l.n ≤ length l.text; inside : IsToken (take l.n l.text) }

abbrev pub decreases-loop-n : goal.decreases-loop-n
decreases-loop-n l = length l.text - l.n
