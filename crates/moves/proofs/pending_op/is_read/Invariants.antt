use Rattle.std.proofs.Common.{◌≡◌, take}
use Rattle.std.specs.List.{Contains}
use Rattle.models.specs.declared.operation.Name.TheVariants.{Read}
use Rattle.moves.specs.declared.pending_op.PendingOp.{PendingOp}
use Rattle.moves.proofs.pending_op.is_read.Given as goal

abbrev pub invariant-loop-call : goal.invariant-loop-call
invariant-loop-call l = (d : PendingOp) → Contains (take l.call-index l.calls) d → ¬ ((d.id ≡ l.id) × (d.op.name ≡ Read))
