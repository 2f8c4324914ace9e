use Rattle.linspec.proofs.BadRead.{verdict_illegal, not_unknown}
use Rattle.linspec.proofs.laws.illegal_before_unknown_law.Goals as goal

pub returns-clause-illegal : goal.returns-clause-illegal
returns-clause-illegal c = verdict_illegal

pub returns-clause-not_unknown : goal.returns-clause-not_unknown
returns-clause-not_unknown c = not_unknown
