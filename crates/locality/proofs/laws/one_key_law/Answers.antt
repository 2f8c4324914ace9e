use Rattle.linspec.specs.Counts.{CountsMoreThanBy}
use Rattle.locality.proofs.OneKeyStatus.{IsVerdict-one, IsVerdict-none}
use Rattle.locality.proofs.laws.one_key_law.Goals as goal

pub returns-clause-one : goal.returns-clause-one
returns-clause-one c counts = IsVerdict-one (CountsMoreThanBy counts)

pub returns-clause-none : goal.returns-clause-none
returns-clause-none c counts = IsVerdict-none (CountsMoreThanBy counts)
