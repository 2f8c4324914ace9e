use Rattle.kinds.specs.Kinds.{object_of}
use Rattle.linspec.specs.Orders.{product}
use Rattle.linspec.proofs.Linearizable.{IsLinearizable-invoked, IsLinearizable-crashed}
use Rattle.linspec.proofs.laws.never_kills_law.Goals as goal

pub returns-clause-invocation : goal.returns-clause-invocation
returns-clause-invocation c kind = IsLinearizable-invoked (object_of kind)

pub returns-clause-crash : goal.returns-clause-crash
returns-clause-crash c kind = IsLinearizable-crashed (object_of kind)

pub returns-clause-invocation_of_all : goal.returns-clause-invocation_of_all
returns-clause-invocation_of_all c kinds = IsLinearizable-invoked (product kinds)

pub returns-clause-crash_of_all : goal.returns-clause-crash_of_all
returns-clause-crash_of_all c kinds = IsLinearizable-crashed (product kinds)
