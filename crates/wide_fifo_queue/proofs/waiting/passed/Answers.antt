use Rattle.std.proofs.Common.{◌<◌, length, subst, arith}
use Rattle.wide_fifo_queue.specs.declared.known.Waiting.{Waiting}
use Rattle.wide_fifo_queue.proofs.Loops.{with_here}
use Rattle.wide_fifo_queue.proofs.waiting.passed.Goals as goal

pub loop-at-preserved : goal.loop-at-preserved
loop-at-preserved c =
    let long = c.len.ensures in
    let lt : c.loop-at.at < length c.args.waiting.now = omega arith in
    record {
      within = omega arith;
      before = with_here (λ (w : Waiting). w.by < c.args.since) c.args.waiting.now c.loop-at.at c.get.result lt c.loop-at.invariant.before
          (subst (λ (w : Waiting). w.by < c.args.since) (c.get.ensures c.get.result) c.if-get-since.true);
    }
