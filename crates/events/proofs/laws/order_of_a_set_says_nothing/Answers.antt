use Rattle.events.proofs.ReadEach.{is_ascending, has_the_integers}
use Rattle.events.proofs.laws.order_of_a_set_says_nothing.Goals as goal

pub returns-clause-ascending : goal.returns-clause-ascending
returns-clause-ascending c = is_ascending

pub returns-clause-members : goal.returns-clause-members
returns-clause-members c = has_the_integers
