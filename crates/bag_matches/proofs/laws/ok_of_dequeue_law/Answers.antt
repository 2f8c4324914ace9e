use Rattle.bag_matches.proofs.Matched.{matched_after_dequeue, no_other_answer}
use Rattle.bag_matches.proofs.laws.ok_of_dequeue_law.Goals as goal

pub returns-clause-value : goal.returns-clause-value
returns-clause-value c marks id op v well invoked name part = matched_after_dequeue marks id v well op invoked (name, part)

pub returns-clause-other : goal.returns-clause-other
returns-clause-other c marks id op answer well invoked name none = no_other_answer marks id answer well op invoked name none
