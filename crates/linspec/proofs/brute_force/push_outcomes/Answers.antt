use Rattle.std.proofs.Common.{◌↔◌, ◌⊎◌, ◌<◌, inl, inr, ⊎_elim, length, subst, arith}
use Rattle.std.specs.List.{Contains}
use Rattle.std.proofs.lemmas.List.{take_all}
use Rattle.linspec.specs.Attempts.{MakesSome}
use Rattle.linspec.specs.KeptMarks.{marks_of_kept}
use Rattle.linspec.proofs.Trying.{makes_none, makes_more}
use Rattle.linspec.proofs.brute_force.push_outcomes.Goals as goal

pub loop-outcome-init : goal.loop-outcome-init
loop-outcome-init c after = (
  (λ h. inl h),
  (λ h. ⊎_elim (λ k. k) (λ m. absurd (makes_none (marks_of_kept c.args.marks.now) c.args.order.now c.args.id c.args.key after m)) h),
)

pub loop-outcome-preserved : goal.loop-outcome-preserved
loop-outcome-preserved c after =
    let l : c.loop-outcome.outcome-index < length c.args.outcomes.now = omega arith in
    let e = c.in_ok-push_outcome.ensures after in
    let i = c.loop-outcome.invariant after in
    let f = makes_more (marks_of_kept c.args.marks.now) c.args.order.now c.args.id c.args.key c.args.outcomes.now c.loop-outcome.outcome-index c.outcome-item.result l c.outcome-item.is after in (
      (λ h. ⊎_elim
          (λ k. ⊎_elim inl (λ m. inr (f.1 (inl m))) (i.0 k))
          (λ m. inr (f.1 (inr m)))
          (e.0 h)),
      (λ h. e.1 (⊎_elim
          (λ k. inl (i.1 (inl k)))
          (λ m. ⊎_elim (λ n. inl (i.1 (inr n))) (λ n. inr n) (f.0 m))
          h)),
    )

pub returns : goal.returns
returns c after =
    subst (λ l. Contains c.loop-outcome.attempts.items after ↔ (Contains c.args.attempts.now.items after ⊎ MakesSome (marks_of_kept c.args.marks.now) c.args.order.now c.args.id c.args.key l after))
    (take_all c.loop-outcome.outcome-index c.args.outcomes.now (omega arith)) (c.loop-outcome.invariant after)
