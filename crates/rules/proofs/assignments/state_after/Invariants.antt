use Rattle.std.proofs.Common.{◌≡◌, drop}
use Rattle.rules.specs.Meaning.{state_after}
use Rattle.rules.proofs.assignments.state_after.Given as goal

abbrev pub invariant-loop-assignment : goal.invariant-loop-assignment
invariant-loop-assignment l =
    state_after l.variables l.before l.given l.assignments l.before
    ≡ state_after l.variables l.before l.given (drop l.assignment-index l.assignments) l.after
