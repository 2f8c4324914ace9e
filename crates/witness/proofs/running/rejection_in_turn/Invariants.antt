use Rattle.std.proofs.Common.{take}
use Rattle.witness.specs.Taking.{IsAfter}
use Rattle.witness.proofs.running.rejection_in_turn.Given as goal

abbrev pub invariant-loop-at : goal.invariant-loop-at
invariant-loop-at l = IsAfter l.fn.kind (take l.at l.calls) l.state
