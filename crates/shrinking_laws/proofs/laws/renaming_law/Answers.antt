use Rattle.kinds.specs.Kinds.{object_of}
use Rattle.linspec.specs.Orders.{product}
use Rattle.shrinking_laws.proofs.Renaming.{IsLinearizable-renamed}
use Rattle.shrinking_laws.proofs.laws.renaming_law.Goals as goal

pub returns-clause-one : goal.returns-clause-one
returns-clause-one c kind name marks one = IsLinearizable-renamed name one (object_of kind) marks

pub returns-clause-all : goal.returns-clause-all
returns-clause-all c kinds name marks one = IsLinearizable-renamed name one (product kinds) marks
