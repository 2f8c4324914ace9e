use Rattle.values.proofs.PutIn.{Contains-put_in, IsAscending-put_in}
use Rattle.values.proofs.laws.put_in_law.Goals as goal

pub returns-clause-members : goal.returns-clause-members
returns-clause-members c = Contains-put_in

pub returns-clause-ascending : goal.returns-clause-ascending
returns-clause-ascending c = IsAscending-put_in
