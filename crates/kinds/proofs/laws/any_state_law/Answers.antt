use Rattle.kinds.proofs.AnyStates.{is_own, kind_of_state-any}
use Rattle.kinds.proofs.laws.any_state_law.Goals as goal

pub returns-clause-own : goal.returns-clause-own
returns-clause-own c = is_own

pub returns-clause-alone : goal.returns-clause-alone
returns-clause-alone c = kind_of_state-any
