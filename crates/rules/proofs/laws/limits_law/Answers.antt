use Rattle.rules.proofs.Bounded.{keeps_limits, keeps_nil, keeps_places}
use Rattle.rules.proofs.laws.limits_law.Goals as goal

pub returns-clause-limits : goal.returns-clause-limits
returns-clause-limits c = keeps_limits

pub returns-clause-nil : goal.returns-clause-nil
returns-clause-nil c = keeps_nil

pub returns-clause-places : goal.returns-clause-places
returns-clause-places c = keeps_places
