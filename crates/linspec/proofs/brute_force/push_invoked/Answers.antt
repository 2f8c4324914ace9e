use Rattle.std.proofs.Common.{◌↔◌, ◌⊎◌, OnOk, sym, subst}
use Rattle.std.specs.List.{Contains}
use Rattle.linspec.specs.KeptMarks.{mark_of, marks_of_kept}
use Rattle.linspec.specs.Attempts.{AttemptView, Follows}
use Rattle.linspec.proofs.brute_force.push_invoked.Goals as goal

pub returns-in-Invoked : goal.returns-in-Invoked
returns-in-Invoked c =
    subst (λ m. OnOk c.push_operation.result ((after : AttemptView) → Contains c.push_operation.new.attempts.items after ↔ (Contains c.args.attempts.now.items after ⊎ Follows (marks_of_kept c.args.marks.now) c.args.order.now (mark_of m) after)))
    (sym c.in-Invoked.is) c.push_operation.ensures
