use Rattle.std.proofs.Common.{◌↔◌, ◌<◌, inl, inr, ⊎_elim, length, subst, arith}
use Rattle.std.specs.List.{Contains}
use Rattle.std.proofs.lemmas.List.{take_all}
use Rattle.linspec.specs.Attempts.{FollowsSome}
use Rattle.linspec.specs.KeptMarks.{marks_of_kept}
use Rattle.linspec.proofs.Trying.{follows_more}
use Rattle.linspec.proofs.brute_force.next_orders.Goals as goal

pub loop-mark-preserved : goal.loop-mark-preserved
loop-mark-preserved c after =
    let l : c.loop-mark.mark-index < length c.args.marks.now = omega arith in
    let e = c.in_ok-push_invoked.ensures after in
    let i = c.loop-mark.invariant after in
    let f = follows_more c.args.marks.now c.args.order.now c.loop-mark.mark-index c.mark-item.result l c.mark-item.is after in (
      (λ h. f.1 (⊎_elim (λ k. inl (i.0 k)) inr (e.0 h))),
      (λ h. e.1 (⊎_elim (λ k. inl (i.1 k)) inr (f.0 h))),
    )

pub returns : goal.returns
returns c after =
    subst (λ marks. Contains c.loop-mark.attempts.items after ↔ FollowsSome (marks_of_kept c.args.marks.now) c.args.order.now (marks_of_kept marks) after)
    (take_all c.loop-mark.mark-index c.args.marks.now (omega arith)) (c.loop-mark.invariant after)
