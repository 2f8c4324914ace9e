use Rattle.queue_pairs.proofs.Oks.{twins_were}
use Rattle.queue_pairs.proofs.Quiet.{late_stays}
use Rattle.queue_pairs.proofs.laws.twins_law.Goals as goal

pub returns-clause-none : goal.returns-clause-none
returns-clause-none c marks none a b v twins = absurd (none (a, b, v, twins))

pub returns-clause-stay : goal.returns-clause-stay
returns-clause-stay c marks m well no_ok late = late_stays marks m well no_ok late

pub returns-clause-ok : goal.returns-clause-ok
returns-clause-ok c marks id answer well none twins = none (twins_were marks id answer well twins)
