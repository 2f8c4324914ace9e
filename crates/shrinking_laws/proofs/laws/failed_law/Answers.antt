use Rattle.kinds.specs.Kinds.{object_of}
use Rattle.linspec.specs.Orders.{product}
use Rattle.shrinking_laws.proofs.LeftOut.{IsLinearizable-with_failed}
use Rattle.shrinking_laws.proofs.BadPrefixes.{failed_same_event}
use Rattle.shrinking_laws.proofs.laws.failed_law.Goals as goal

pub returns-clause-one : goal.returns-clause-one
returns-clause-one c kind out marks = IsLinearizable-with_failed out (object_of kind) marks

pub returns-clause-all : goal.returns-clause-all
returns-clause-all c kinds out marks = IsLinearizable-with_failed out (product kinds) marks

pub returns-clause-same_event : goal.returns-clause-same_event
returns-clause-same_event c kind out entries last well = failed_same_event out (object_of kind) entries last well
