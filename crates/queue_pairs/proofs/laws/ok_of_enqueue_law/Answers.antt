use Rattle.queue_pairs.proofs.Oks.{paired_after_ok_of_enqueue}
use Rattle.queue_pairs.proofs.laws.ok_of_enqueue_law.Goals as goal

pub returns : goal.returns
returns c marks id v answer well own = paired_after_ok_of_enqueue marks id answer well v own
