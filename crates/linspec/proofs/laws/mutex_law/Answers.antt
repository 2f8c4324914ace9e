use Rattle.linspec.proofs.OtherObjects.{waiting_linearizable, held_twice_not_linearizable}
use Rattle.linspec.proofs.laws.mutex_law.Goals as goal

pub returns-clause-waiting : goal.returns-clause-waiting
returns-clause-waiting c = waiting_linearizable

pub returns-clause-held_twice : goal.returns-clause-held_twice
returns-clause-held_twice c = held_twice_not_linearizable
