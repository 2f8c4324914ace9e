use Rattle.linspec.proofs.RegisterReads.{open_read_linearizable, write_then_read_linearizable, other_value_not_linearizable}
use Rattle.linspec.proofs.laws.write_then_read_law.Goals as goal

pub returns-clause-unanswered : goal.returns-clause-unanswered
returns-clause-unanswered c = open_read_linearizable

pub returns-clause-its_value : goal.returns-clause-its_value
returns-clause-its_value c = write_then_read_linearizable

pub returns-clause-other_value : goal.returns-clause-other_value
returns-clause-other_value c = other_value_not_linearizable
