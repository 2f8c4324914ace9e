use Rattle.rules.proofs.Reading.{leaves}
use Rattle.rules.proofs.laws.reads_law.Goals as goal

pub returns-clause-leaves : goal.returns-clause-leaves
returns-clause-leaves c = leaves
