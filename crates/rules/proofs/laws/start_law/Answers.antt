use Rattle.rules.proofs.Starting.{start_keeps, start_is_nil}
use Rattle.rules.proofs.laws.start_law.Goals as goal

pub returns-clause-limits : goal.returns-clause-limits
returns-clause-limits c = start_keeps

pub returns-clause-nil : goal.returns-clause-nil
returns-clause-nil c = start_is_nil
