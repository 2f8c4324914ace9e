use Rattle.queue_pairs.proofs.Oks.{not_paired_after_other_ok}
use Rattle.queue_pairs.proofs.laws.other_oks_law.Goals as goal

pub returns : goal.returns
returns c marks id op answer well invoked no_enqueue no_dequeue = not_paired_after_other_ok marks id answer well op invoked no_enqueue no_dequeue
