use Rattle.std.proofs.Common.{rules}
use Rattle.machine.specs.Machine.{idle_from}
use Rattle.harness.proofs.Asked.{on_err, has_op_for, no_fault_for_threads}
use Rattle.harness.proofs.asking.draw_op.Goals as goal

pub unreachable-requires : goal.unreachable-requires
unreachable-requires c =
    no_fault_for_threads _ _ c.args.thread _ _ _ _ c.in_ok-op.field-0 c.in-Op-Fault.field-0 c.in-Op-Fault.field-0-0 c.in-Op-Fault.is c.in-Op-Fault.field-0-is c.in_ok-op.ensures.answer

pub returns-in_err-op-clause-item : goal.returns-in_err-op-clause-item
returns-in_err-op-clause-item c =
    let h = c.args.history.now in
    on_err c.from_residual.result (has_op_for c.args.source.now (idle_from h.concurrency h.events 0 h.concurrency) _ c.args.thread c.in_err-op.ensures.item (search rules))
