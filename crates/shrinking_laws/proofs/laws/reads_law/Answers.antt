use Rattle.kinds.specs.Kinds.{object_of}
use Rattle.shrinking_laws.proofs.LeftOut.{IsLinearizable-without_reads, IsLinearizable-with_reads}
use Rattle.shrinking_laws.proofs.BadPrefixes.{reads_same_event, kind_reads}
use Rattle.shrinking_laws.proofs.laws.reads_law.Goals as goal

pub returns-clause-any : goal.returns-clause-any
returns-clause-any c kind out marks = IsLinearizable-without_reads out (object_of kind) marks (kind_reads kind)

pub returns-clause-not_returned : goal.returns-clause-not_returned
returns-clause-not_returned c kind out marks = IsLinearizable-with_reads out (object_of kind) marks (kind_reads kind)

pub returns-clause-same_event : goal.returns-clause-same_event
returns-clause-same_event c kind out entries last well = reads_same_event out (object_of kind) entries last well (kind_reads kind)
