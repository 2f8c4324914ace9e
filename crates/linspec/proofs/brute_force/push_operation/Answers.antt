use Rattle.std.proofs.Common.{◌↔◌, ◌⊎◌, inl, inr, ⊎_elim, List, sym, ◌∙◌, ap, subst}
use Rattle.std.proofs.lemmas.Bool.{true≢false}
use Rattle.std.proofs.lemmas.Result.{on_ok_weaker}
use Rattle.models.specs.declared.finding.Found.{Found}
use Rattle.linspec.specs.KeptMarks.{marks_of_kept}
use Rattle.linspec.specs.Finishing.{MayStandAfter}
use Rattle.linspec.specs.Attempts.{AttemptView, Keyed, LeadTo, Steps}
use Rattle.linspec.proofs.Trying.{follows_by}
use Rattle.linspec.proofs.brute_force.push_operation.Goals as goal

pub returns-then-not-may_stand_after : goal.returns-then-not-may_stand_after
returns-then-not-may_stand_after c after =
    let same = sym (ap (λ (f : AttemptView). f.taken) c.order.view_is) ∙ sym c.deref.ensures.value in (
      (λ h. inl h),
      (λ h. ⊎_elim (λ k. k) (λ f. absurd (true≢false (sym (c.may_stand_after.ensures.1 (subst (λ l. MayStandAfter (marks_of_kept c.args.marks.now) l c.args.id) same f.stands)) ∙ c.if-not-may_stand_after.true))) h),
    )

pub returns : goal.returns
returns c =
    let marks = marks_of_kept c.args.marks.now in
    let same = sym (ap (λ (f : AttemptView). f.taken) c.order.view_is) ∙ sym c.deref.ensures.value in
    let same_states = sym (ap (λ (f : AttemptView). f.states) c.order.view_is) ∙ sym c.deref-2.ensures.value in
    let stands = subst (λ l. MayStandAfter marks l c.args.id) (sym same) (c.may_stand_after.ensures.0 c.if-not-may_stand_after.false) in
    let steps = subst (λ l. (found : Found) (after : List Keyed) → Steps l c.args.op.now found after ↔ LeadTo l c.args.op.now.key c.in_ok-outcomes.outcomes.items found after) (sym same_states) c.in_ok-outcomes.ensures in
    on_ok_weaker c.push_outcomes.result
    (λ made after.
    let by = follows_by marks c.args.order.now c.args.id c.args.op.now c.deref-3.result.now
    (subst (λ o. (found : Found) (after : List Keyed) → Steps c.args.order.now.states c.args.op.now found after ↔ LeadTo c.args.order.now.states c.args.op.now.key o found after) (sym c.deref-3.ensures.value) steps) stands after in (
      (λ h. ⊎_elim inl (λ m. inr (by.1 m)) ((made after).0 h)),
      (λ h. (made after).1 (⊎_elim inl (λ f. inr (by.0 f)) h)),
    ))
    c.push_outcomes.ensures
