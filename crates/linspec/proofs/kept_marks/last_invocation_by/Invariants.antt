use Rattle.std.proofs.Common.{◌≡◌, take}
use Rattle.linspec.specs.KeptMarks.{last_invocation}
use Rattle.linspec.proofs.kept_marks.last_invocation_by.Given as goal

abbrev pub invariant-loop-at : goal.invariant-loop-at
invariant-loop-at l = l.last ≡ last_invocation (take l.at l.events) l.process
