use Rattle.std.proofs.Common.{◌≢◌}
use Rattle.wide_fifo_queue.specs.declared.known.Pending.{Pending}
use Rattle.wide_fifo_queue.proofs.Loops.{with_here, of_all}
use Rattle.wide_fifo_queue.proofs.lists.pending_of.Goals as goal

pub loop-call-preserved : goal.loop-call-preserved
loop-call-preserved c = with_here (λ (x : Pending). x.id ≢ c.args.id) c.args.pending.now c.loop-call.call-index _ c.loop-call-test.true c.loop-call.invariant c.if-call-id.false

pub returns-clause-none : goal.returns-clause-none
returns-clause-none c e = of_all (λ (x : Pending). x.id ≢ c.args.id) c.args.pending.now c.loop-call.call-index c.loop-call-test.false c.loop-call.invariant
