use Rattle.kinds.specs.Kinds.{object_of}
use Rattle.linspec.specs.Orders.{product}
use Rattle.shrinking_laws.specs.LeftOut.{without}
use Rattle.shrinking_laws.proofs.Intervals.{IsLinearizable-stricter}
use Rattle.shrinking_laws.proofs.LeftOut.{rest_asks_for_more}
use Rattle.shrinking_laws.proofs.laws.not_returned_law.Goals as goal

pub returns-clause-one : goal.returns-clause-one
returns-clause-one c kind out marks none = IsLinearizable-stricter (object_of kind) marks (without out marks) (rest_asks_for_more out marks none)

pub returns-clause-all : goal.returns-clause-all
returns-clause-all c kinds out marks none = IsLinearizable-stricter (product kinds) marks (without out marks) (rest_asks_for_more out marks none)
