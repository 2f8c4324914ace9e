use Rattle.kinds.proofs.Apart.{none_listed_twice, table_apart}
use Rattle.kinds.proofs.laws.table_law.Goals as goal

pub returns-clause-once : goal.returns-clause-once
returns-clause-once c = none_listed_twice

pub returns-clause-apart : goal.returns-clause-apart
returns-clause-apart c = table_apart
