use Rattle.models.proofs.Unordered.{each_is_dequeued_once, in_any_order, dequeue_is}
use Rattle.models.proofs.laws.unordered_queue_law.Goals as goal

pub returns-clause-each_once : goal.returns-clause-each_once
returns-clause-each_once c = each_is_dequeued_once

pub returns-clause-any_order : goal.returns-clause-any_order
returns-clause-any_order c = in_any_order

pub returns-clause-any_value : goal.returns-clause-any_value
returns-clause-any_value c = dequeue_is
