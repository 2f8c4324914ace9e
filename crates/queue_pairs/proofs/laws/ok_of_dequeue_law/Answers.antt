use Rattle.queue_pairs.proofs.OkOfDequeue.{paired_after_ok_of_dequeue}
use Rattle.queue_pairs.proofs.laws.ok_of_dequeue_law.Goals as goal

pub returns : goal.returns
returns c marks id op v well invoked dequeues = paired_after_ok_of_dequeue marks id op v well invoked dequeues
