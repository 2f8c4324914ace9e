use Rattle.linspec.proofs.RegisterReads.{crashed_write_linearizable, crashed_write_stays}
use Rattle.linspec.proofs.laws.crashed_write_law.Goals as goal

pub returns-clause-later : goal.returns-clause-later
returns-clause-later c = crashed_write_linearizable

pub returns-clause-not_undone : goal.returns-clause-not_undone
returns-clause-not_undone c = crashed_write_stays
