use Rattle.std.proofs.Common.{◌≡◌, ◌++◌, map, take, drop}
use Rattle.moves.specs.EndSteps.{crash_call}
use Rattle.moves.proofs.pending_op.mark_crashed.Given as goal

abbrev pub invariant-loop-call : goal.invariant-loop-call
invariant-loop-call l = l.calls ≡ map (crash_call l.id) (take l.call-index l.initial.calls) ++ drop l.call-index l.initial.calls
