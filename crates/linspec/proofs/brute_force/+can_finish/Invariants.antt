use Rattle.std.proofs.Common.{take}
use Rattle.std.specs.List.{Contains}
use Rattle.linspec.specs.Attempts.{AttemptView, Steps}
use Rattle.linspec.specs.Finishing.{CanFinish}
use Rattle.linspec.specs.KeptMarks.{marks_of_kept}
use Rattle.linspec.proofs.Trying.{left}
use Rattle.linspec.proofs.brute_force.+can_finish.Given as goal

abbrev pub decreases-can_finish : goal.decreases-can_finish
decreases-can_finish l = left (marks_of_kept l.marks.now) l.order.now.taken

abbrev pub invariant-loop-next : goal.invariant-loop-next
invariant-loop-next l = (n : AttemptView) → Contains (take l.next-index l.next-items) n → ¬ CanFinish Steps (marks_of_kept l.marks) n.taken n.states
