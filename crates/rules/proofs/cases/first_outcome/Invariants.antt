use Rattle.std.proofs.Common.{◌≡◌, drop}
use Rattle.rules.specs.Meaning.{first_outcome}
use Rattle.rules.proofs.cases.first_outcome.Given as goal

abbrev pub invariant-loop-case : goal.invariant-loop-case
invariant-loop-case l =
    first_outcome l.variables l.before l.given l.reads l.cases
    ≡ first_outcome l.variables l.before l.given l.reads (drop l.case-index l.cases)
