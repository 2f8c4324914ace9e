use Rattle.std.proofs.Common.{rules}
use Rattle.machine.specs.Machine.{idle_from}
use Rattle.harness.proofs.Asked.{on_err, has_fault_for, no_operation_for_the_nemesis}
use Rattle.harness.proofs.asking.draw_fault.Goals as goal

pub unreachable-requires : goal.unreachable-requires
unreachable-requires c =
    no_operation_for_the_nemesis _ _ _ _ _ _ c.in_ok-fault.field-0 c.in-Op-Op.field-0 c.in-Op-Op.field-0-0 c.in-Op-Op.is c.in-Op-Op.field-0-is c.in_ok-fault.ensures.answer

pub returns-in_err-fault-clause-item : goal.returns-in_err-fault-clause-item
returns-in_err-fault-clause-item c =
    let h = c.args.history.now in
    on_err c.from_residual.result (has_fault_for c.args.source.now (idle_from h.concurrency h.events 0 h.concurrency) _ c.in_err-fault.ensures.item (search rules))
