use Rattle.std.proofs.Common.{◌≡◌, ◌++◌, ℕ, List, vec_len}
use Rattle.models.specs.declared.finding.Found.{Found}
use Rattle.moves.specs.Moves.{AreTo}
use Rattle.moves.specs.Tables.{KeepsRows}
use Rattle.moves.proofs.moves.put_targets.Given as goal

abbrev pub invariant-loop-state : goal.invariant-loop-state
invariant-loop-state g l =
    record {
      put : (done : List (g.row.M-State.Denot × Found)) × (more : List (ℕ × ℕ)) × (l.initial.outcomes.items ≡ l.outcomes.items ++ done) × AreTo l.table l.crashed done more × (l.targets.items ≡ l.initial.targets.items ++ more);
      rows : KeepsRows l.initial.table l.table;
    }

abbrev pub decreases-loop-state : goal.decreases-loop-state
decreases-loop-state g l = vec_len l.outcomes
