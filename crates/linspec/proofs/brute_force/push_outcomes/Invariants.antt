use Rattle.std.proofs.Common.{◌↔◌, ◌⊎◌, take}
use Rattle.std.specs.List.{Contains}
use Rattle.linspec.specs.Attempts.{AttemptView, MakesSome}
use Rattle.linspec.specs.KeptMarks.{marks_of_kept}
use Rattle.linspec.proofs.brute_force.push_outcomes.Given as goal

abbrev pub invariant-loop-outcome : goal.invariant-loop-outcome
invariant-loop-outcome l = (after : AttemptView) → Contains l.attempts.items after ↔ (Contains l.initial.attempts.items after ⊎ MakesSome (marks_of_kept l.marks) l.order l.id l.key (take l.outcome-index l.outcomes) after)
