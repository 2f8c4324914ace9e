use Rattle.linspec.specs.Counts.{CountsMoreThanBy}
use Rattle.locality.proofs.Joins.{IsVerdict-join}
use Rattle.locality.proofs.laws.join_law_by.Goals as goal

pub returns : goal.returns
returns c counts kinds budgets entries statuses v keyed well rising are j = IsVerdict-join (CountsMoreThanBy counts) kinds budgets entries statuses keyed well rising are v j
