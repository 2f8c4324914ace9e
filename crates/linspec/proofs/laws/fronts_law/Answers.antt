use Rattle.kinds.specs.Kinds.{object_of}
use Rattle.linspec.specs.Orders.{product}
use Rattle.linspec.proofs.Prefixes.{IsLinearizable-front}
use Rattle.linspec.proofs.laws.fronts_law.Goals as goal

pub returns-clause-one : goal.returns-clause-one
returns-clause-one c kind front entries = IsLinearizable-front (object_of kind) front entries

pub returns-clause-all : goal.returns-clause-all
returns-clause-all c kinds front entries = IsLinearizable-front (product kinds) front entries
