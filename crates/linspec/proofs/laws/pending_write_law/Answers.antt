use Rattle.linspec.proofs.RegisterReads.{pending_write_linearizable, failed_write_not_linearizable}
use Rattle.linspec.proofs.laws.pending_write_law.Goals as goal

pub returns-clause-pending : goal.returns-clause-pending
returns-clause-pending c = pending_write_linearizable

pub returns-clause-failed : goal.returns-clause-failed
returns-clause-failed c = failed_write_not_linearizable
