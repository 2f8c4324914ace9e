use Rattle.std.proofs.Common.{[], refl, sym, subst}
use Rattle.wide_fifo_queue.specs.Facts.{Facts, AreFacts}
use Rattle.wide_fifo_queue.proofs.Beginning.{no_facts_are}
use Rattle.wide_fifo_queue.proofs.judged.WideFifoQueue.start.Goals as goal

pub returns : goal.returns
returns c = record {
  stands = subst (λ (f : Facts). AreFacts f []) (sym c.new.ensures) no_facts_are;
  budget_is = refl;
  applied_is = refl;
}
