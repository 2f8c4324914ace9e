use Rattle.kinds.specs.Kinds.{object_of}
use Rattle.linspec.proofs.CrashedReads.{less_with_reads, blown_by, blown_at_by, no_later_by, verdicts_by}
use Rattle.linspec.proofs.ByKind.{counted_with_reads}
use Rattle.linspec.proofs.laws.crashed_reads_law.Goals as goal

pub returns-clause-fewer : goal.returns-clause-fewer
returns-clause-fewer c kind = less_with_reads (object_of kind)

pub returns-clause-blown : goal.returns-clause-blown
returns-clause-blown c kind = blown_by _ _ (less_with_reads (object_of kind))

pub returns-clause-blown_at : goal.returns-clause-blown_at
returns-clause-blown_at c kind = blown_at_by _ _ (less_with_reads (object_of kind))

pub returns-clause-no_later : goal.returns-clause-no_later
returns-clause-no_later c kind = no_later_by _ _ (less_with_reads (object_of kind))

pub returns-clause-verdict : goal.returns-clause-verdict
returns-clause-verdict c kinds budgets entries none v = verdicts_by _ _ counted_with_reads kinds budgets entries none v
