use Rattle.kinds.specs.Kinds.{object_of}
use Rattle.shrinking_laws.specs.LeftOut.{without}
use Rattle.shrinking_laws.proofs.Intervals.{IsLinearizable-stricter}
use Rattle.shrinking_laws.proofs.LeftOut.{rest_asks_for_more, IsLinearizable-without_foreign}
use Rattle.shrinking_laws.proofs.laws.foreign_law.Goals as goal

pub returns-clause-any : goal.returns-clause-any
returns-clause-any c kind out marks are = IsLinearizable-without_foreign out (object_of kind) marks are

pub returns-clause-not_returned : goal.returns-clause-not_returned
returns-clause-not_returned c kind out marks are none = (
  IsLinearizable-without_foreign out (object_of kind) marks are,
  IsLinearizable-stricter (object_of kind) marks (without out marks) (rest_asks_for_more out marks none),
)
