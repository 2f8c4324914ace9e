use Rattle.kinds.specs.Kinds.{object_of}
use Rattle.linspec.specs.Orders.{product}
use Rattle.linspec.proofs.Linearizable.{IsLinearizable-empty}
use Rattle.linspec.proofs.laws.empty_law.Goals as goal

pub returns-clause-one : goal.returns-clause-one
returns-clause-one c kind = IsLinearizable-empty (object_of kind)

pub returns-clause-all : goal.returns-clause-all
returns-clause-all c kinds = IsLinearizable-empty (product kinds)
