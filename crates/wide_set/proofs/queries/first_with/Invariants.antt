use Rattle.std.proofs.Common.{◌≤◌, length, drop}
use Rattle.std.specs.List.{Contains}
use Rattle.wide_set.specs.declared.known.Answered.{Answered}
use Rattle.wide_set.proofs.queries.first_with.Given as goal

abbrev pub invariant-loop-at : goal.invariant-loop-at
invariant-loop-at l = record {
  within : l.at ≤ length l.answers;
  with : (a : Answered) → Contains (drop l.at l.answers) a → Contains a.members l.value;
}

abbrev pub decreases-loop-at : goal.decreases-loop-at
decreases-loop-at l = l.at
