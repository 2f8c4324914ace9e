use Rattle.shrinking_laws.proofs.Queues.{IsLinearizable-without_queue_values}
use Rattle.shrinking_laws.proofs.laws.fifo_queue_law.Goals as goal

pub returns : goal.returns
returns c values out marks well are = IsLinearizable-without_queue_values values marks well out are
