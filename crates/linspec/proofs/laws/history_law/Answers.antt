use Rattle.linspec.proofs.Histories.{of_history}
use Rattle.linspec.proofs.laws.history_law.Goals as goal

pub returns-clause-keyed : goal.returns-clause-keyed
returns-clause-keyed c events may = (of_history events may).0

pub returns-clause-well : goal.returns-clause-well
returns-clause-well c events may = (of_history events may).1

pub returns-clause-rising : goal.returns-clause-rising
returns-clause-rising c events may = (of_history events may).2
