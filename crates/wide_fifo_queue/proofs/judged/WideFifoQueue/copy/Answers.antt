use Rattle.std.proofs.Common.{refl}
use Rattle.wide_fifo_queue.proofs.Judging.{same_stands}
use Rattle.wide_fifo_queue.proofs.judged.WideFifoQueue.copy.Goals as goal

pub returns : goal.returns
returns c = record {
  same = λ ms. same_stands c.args.self.now.known c.in_ok-known.known c.in_ok-known.ensures ms;
  budget = refl;
  applied = refl;
}
