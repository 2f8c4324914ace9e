use Rattle.linspec.specs.Counts.{CountsMoreThan}
use Rattle.locality.proofs.Joins.{IsVerdict-join}
use Rattle.locality.proofs.laws.join_law.Goals as goal

pub returns : goal.returns
returns c kinds budgets entries statuses v keyed well rising are j = IsVerdict-join CountsMoreThan kinds budgets entries statuses keyed well rising are v j
