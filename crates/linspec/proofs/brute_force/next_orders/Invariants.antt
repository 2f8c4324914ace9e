use Rattle.std.proofs.Common.{◌↔◌, take}
use Rattle.std.specs.List.{Contains}
use Rattle.linspec.specs.Attempts.{AttemptView, FollowsSome}
use Rattle.linspec.specs.KeptMarks.{marks_of_kept}
use Rattle.linspec.proofs.brute_force.next_orders.Given as goal

abbrev pub invariant-loop-mark : goal.invariant-loop-mark
invariant-loop-mark l = (after : AttemptView) → Contains l.attempts.items after ↔ FollowsSome (marks_of_kept l.marks) l.order (marks_of_kept (take l.mark-index l.marks)) after
