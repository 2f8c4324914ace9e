use Rattle.shrinking_laws.proofs.Ranks.{without_dequeues, without_pair, without_left_over}
use Rattle.shrinking_laws.proofs.laws.unordered_queue_law.Goals as goal

pub returns-clause-dequeues : goal.returns-clause-dequeues
returns-clause-dequeues c out marks well are dequeues = without_dequeues marks well out are dequeues

pub returns-clause-pair : goal.returns-clause-pair
returns-clause-pair c marks v enqueue dequeue well are rank = without_pair marks well v enqueue dequeue rank are

pub returns-clause-alone : goal.returns-clause-alone
returns-clause-alone c marks v enqueue well are left = without_left_over marks well v enqueue left are
