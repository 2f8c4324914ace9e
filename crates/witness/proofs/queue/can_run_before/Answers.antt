-- the contents of the empty queue
use Rattle.std.proofs.Common.{◌↔◌, [], ◌++◌, IsTrue, sym, ◌∙◌, subst}
use Rattle.std.proofs.lemmas.Bool.{true≢false, eqb-true}
use Rattle.models.specs.Objects.{unordered_queue}
use Rattle.witness.specs.Calls.{CanRun}
use Rattle.witness.specs.Requirements.{RequirementOf}
use Rattle.witness.proofs.Ahead.{met, unmet}
use Rattle.witness.proofs.queue.can_run_before.Goals as goal
use Rattle.witness.proofs.queue.can_run_before.Goals.{then-len-eq0, else-len-eq0}

pub returns-after-len-eq0 : goal.returns-after-len-eq0
returns-after-len-eq0 c = λ later h.
    let calls = c.args.calls.now ++ later in
    let requirement = c.in-Some.requirement in
    let are = subst (RequirementOf calls) c.in-Some.is (c.in_ok-requirement.ensures later h) in
    elim c.if-len-eq0.branch [
      | then-len-eq0 w ↦ subst (λ b. IsTrue b ↔ CanRun unordered_queue calls []) (sym w.result-is) (met calls requirement are (sym c.len.ensures.is ∙ w.if-len-eq0.true))
      | else-len-eq0 w ↦ (
        (λ t. absurd (w.if-len-eq0.false (eqb-true c.len.result 0 (sym w.result-is ∙ t)))),
        (λ r. absurd (unmet calls requirement are (λ e. w.if-len-eq0.false (c.len.ensures.is ∙ e)) r)),
      )
    ]

pub returns-in-None : goal.returns-in-None
returns-in-None c = λ later h. (
  (λ t. absurd (true≢false (sym t))),
  (λ r. absurd (subst (RequirementOf (c.args.calls.now ++ later)) c.in-None.is (c.in_ok-requirement.ensures later h) [] r)),
)
