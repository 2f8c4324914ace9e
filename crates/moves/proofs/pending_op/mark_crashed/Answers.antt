use Rattle.std.proofs.Common.{ap, ◌∙◌, sym, true, set, arith}
use Rattle.moves.specs.declared.pending_op.PendingOp.{PendingOp}
use Rattle.moves.specs.EndSteps.{crash_call}
use Rattle.moves.proofs.CallsInTurn.{changed_more, crash_call-same, crash_call-other}
use Rattle.moves.proofs.pending_op.mark_crashed.Goals as goal
use Rattle.moves.proofs.pending_op.mark_crashed.Goals.{then-call-id, else-call-id}

pub loop-call-preserved : goal.loop-call-preserved
loop-call-preserved c =
    let same_id = ap (λ (y : PendingOp). y.id) c.call-item.is in
    let same_call = ap (λ (y : PendingOp). set c.loop-call.calls c.loop-call.call-index (record { id = y.id; op = y.op; crashed = true })) (sym c.call-item.is) in
    elim c.if-call-id.branch [
      | then-call-id w ↦
          changed_more (crash_call c.args.id) c.args.calls.now c.loop-call.calls c.loop-call.call-index c.call-item.result c.loop-call.invariant (omega arith) c.call-item.is
          c.if-call-id.calls (w.calls-is ∙ same_call ∙ ap (set c.loop-call.calls c.loop-call.call-index) (crash_call-same c.call-item.result c.args.id (same_id ∙ w.if-call-id.true)))
      | else-call-id w ↦
          changed_more (crash_call c.args.id) c.args.calls.now c.loop-call.calls c.loop-call.call-index c.call-item.result c.loop-call.invariant (omega arith) c.call-item.is
          c.if-call-id.calls (w.calls-is ∙ ap (set c.loop-call.calls c.loop-call.call-index) (sym c.call-item.is ∙ sym (crash_call-other c.call-item.result c.args.id (λ e. w.if-call-id.false (sym same_id ∙ e)))))
    ]
