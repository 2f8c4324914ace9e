use Rattle.kinds.specs.Kinds.{object_of}
use Rattle.linspec.specs.Counts.{CountsMoreThanBy}
use Rattle.linspec.proofs.OneAnswer.{one_status, one_verdict_by}
use Rattle.linspec.proofs.laws.one_answer_law.Goals as goal

pub returns-clause-status : goal.returns-clause-status
returns-clause-status c counts kind = one_status (CountsMoreThanBy counts kind) (object_of kind)

pub returns-clause-verdict : goal.returns-clause-verdict
returns-clause-verdict c counts kinds budgets entries v w rising = one_verdict_by (CountsMoreThanBy counts) kinds budgets entries rising v w
