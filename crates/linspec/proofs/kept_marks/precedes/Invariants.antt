use Rattle.std.proofs.Common.{take}
use Rattle.linspec.specs.Operations.{Precedes}
use Rattle.linspec.specs.KeptMarks.{marks_of_kept}
use Rattle.linspec.proofs.kept_marks.precedes.Given as goal

abbrev pub invariant-loop-at : goal.invariant-loop-at
invariant-loop-at l = ¬ Precedes (marks_of_kept (take l.at l.marks)) l.a l.b
