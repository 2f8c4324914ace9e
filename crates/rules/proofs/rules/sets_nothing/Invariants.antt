use Rattle.std.proofs.Common.{◌≡◌, drop}
use Rattle.rules.specs.Meaning.{sets_nothing}
use Rattle.rules.proofs.rules.sets_nothing.Given as goal

abbrev pub invariant-loop-case : goal.invariant-loop-case
invariant-loop-case l = sets_nothing l.cases ≡ sets_nothing (drop l.case-index l.cases)
