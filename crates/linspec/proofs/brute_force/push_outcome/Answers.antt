use Rattle.std.proofs.Common.{◌∷◌, ◌++◌, [], inl, inr, ⊎_elim, sym, ◌∙◌, subst}
use Rattle.std.specs.List.{Contains}
use Rattle.std.proofs.lemmas.Bool.{true≢false}
use Rattle.std.proofs.lemmas.List.Elements.{Contains-append_left, Contains-push, Contains-push_cases}
use Rattle.linspec.specs.KeptMarks.{marks_of_kept}
use Rattle.linspec.proofs.Trying.{makes_that}
use Rattle.linspec.proofs.brute_force.push_outcome.Goals as goal

pub returns-then-not-agrees_with_answer : goal.returns-then-not-agrees_with_answer
returns-then-not-agrees_with_answer c after = (
  (λ h. inl h),
  (λ h. ⊎_elim (λ k. k) (λ m. absurd (true≢false (sym (c.agrees_with_answer.ensures.1 m.fits) ∙ c.if-not-agrees_with_answer.true))) h),
)

pub returns : goal.returns
returns c after =
    let made = makes_that (marks_of_kept c.args.marks.now) c.args.order.now c.args.id c.args.key c.args.outcome.now c.in_ok-next.next
    (c.agrees_with_answer.ensures.0 c.if-not-agrees_with_answer.false) c.in_ok-next.ensures.taken c.in_ok-next.ensures.states after in
    let items = c.in_ok-push.ensures.items in (
      (λ h. ⊎_elim inl (λ e. inr (made.1 e)) (Contains-push_cases c.args.attempts.now.items c.in_ok-next.next after (subst (λ l. Contains l after) items h))),
      (λ h. subst (λ l. Contains l after) (sym items) (⊎_elim
          (λ k. Contains-append_left c.args.attempts.now.items (c.in_ok-next.next ∷ []) after k)
          (λ m. subst (Contains (c.args.attempts.now.items ++ c.in_ok-next.next ∷ [])) (made.0 m) (Contains-push c.args.attempts.now.items c.in_ok-next.next))
          h)),
    )
