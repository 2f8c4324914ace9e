use Rattle.std.proofs.Common.{◌≡◌, take}
use Rattle.events.specs.Events.{entries_of, indexed_from, marks}
use Rattle.linspec.specs.KeptMarks.{marks_of_kept}
use Rattle.linspec.proofs.kept_marks.marks_of.Given as goal

abbrev pub invariant-loop-at : goal.invariant-loop-at
invariant-loop-at l = marks_of_kept l.all.items ≡ marks (entries_of (indexed_from 0 (take l.at l.events)))
