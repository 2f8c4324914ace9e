use Rattle.processes.proofs.Refused.{one, none}
use Rattle.processes.proofs.laws.rule_is_refused_for_one_reason.Goals as goal

pub returns-clause-one : goal.returns-clause-one
returns-clause-one c = one

pub returns-clause-none : goal.returns-clause-none
returns-clause-none c = none
