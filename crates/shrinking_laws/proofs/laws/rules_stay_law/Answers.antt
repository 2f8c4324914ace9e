use Rattle.shrinking_laws.proofs.Ranks.{is_not_first, is_not_second}
use Rattle.shrinking_laws.proofs.Staying.{pair_stays, last_stays, rank_stays, rank_stays_alone, left_stays, left_stays_by_pair}
use Rattle.shrinking_laws.proofs.laws.rules_stay_law.Goals as goal

pub returns-clause-pair : goal.returns-clause-pair
returns-clause-pair c out marks name other first second e f pair = pair_stays marks out name other first second e f pair

pub returns-clause-last : goal.returns-clause-last
returns-clause-last c out marks name other id e is = last_stays marks out name other id e is

pub returns-clause-rank : goal.returns-clause-rank
returns-clause-rank c marks v w enqueue dequeue other taker well rank next e f =
    rank_stays marks well v enqueue dequeue rank w other taker next
    (is_not_first enqueue dequeue other e) (is_not_second enqueue dequeue other e)
    (is_not_first enqueue dequeue taker f) (is_not_second enqueue dequeue taker f)

pub returns-clause-rank_alone : goal.returns-clause-rank_alone
returns-clause-rank_alone c marks v w enqueue other taker well gone next e f = rank_stays_alone marks well v enqueue gone w other taker e f next

pub returns-clause-alone : goal.returns-clause-alone
returns-clause-alone c marks v w enqueue dequeue other well rank left e = left_stays_by_pair marks well w other left v enqueue dequeue rank e

pub returns-clause-alone_alone : goal.returns-clause-alone_alone
returns-clause-alone_alone c marks v w enqueue other well gone left e = left_stays marks well v enqueue gone w other e left
