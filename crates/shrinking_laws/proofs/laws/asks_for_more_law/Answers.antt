use Rattle.kinds.specs.Kinds.{object_of}
use Rattle.linspec.specs.Orders.{product}
use Rattle.shrinking_laws.proofs.Intervals.{IsLinearizable-stricter}
use Rattle.shrinking_laws.proofs.laws.asks_for_more_law.Goals as goal

pub returns-clause-one : goal.returns-clause-one
returns-clause-one c kind = IsLinearizable-stricter (object_of kind)

pub returns-clause-all : goal.returns-clause-all
returns-clause-all c kinds = IsLinearizable-stricter (product kinds)
