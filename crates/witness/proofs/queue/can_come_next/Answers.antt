-- with one call after them, without its answer
use Rattle.std.proofs.Common.{◌≡◌, ◌↔◌, IsTrue, List, [], ◌∷◌, ◌++◌, refl, sym, subst}
use Rattle.std.proofs.lemmas.Bool.{true≢false}
use Rattle.std.proofs.lemmas.Result.{IfOk-weaker}
use Rattle.models.specs.Objects.{unordered_queue}
use Rattle.witness.specs.declared.calls.Call.{Call}
use Rattle.witness.specs.Calls.{CanRun, unanswered}
use Rattle.witness.specs.Requirements.{IsRequirement, RequirementOf}
use Rattle.witness.proofs.Runs.{CanRun-right}
use Rattle.witness.proofs.queue.can_come_next.Goals as goal

pub returns-in-Some : goal.returns-in-Some
returns-in-Some c = IfOk-weaker c.can_run_before.result
    (λ b. (later : List Call) → IsRequirement later c.in-Some.requirement → IsTrue b ↔ CanRun unordered_queue (c.args.before.now ++ later) [])
    (λ b. (call : Call) → call.op ≡ c.args.op.now → IsTrue b ↔ CanRun unordered_queue (c.args.before.now ++ unanswered call ∷ []) [])
    (λ b h call is. h (unanswered call ∷ []) (subst (RequirementOf (unanswered call ∷ [])) c.in-Some.is (c.in_ok-requirement.ensures.requirement (unanswered call) is refl [] c.no_requirement.ensures.requirement)))
    c.can_run_before.ensures

pub returns-in-None : goal.returns-in-None
returns-in-None c = λ call is. (
  (λ t. absurd (true≢false (sym t))),
  (λ r.
      let last = CanRun-right unordered_queue c.args.before.now (unanswered call ∷ []) [] r in
      absurd (subst (RequirementOf (unanswered call ∷ [])) c.in-None.is (c.in_ok-requirement.ensures.requirement (unanswered call) is refl [] c.no_requirement.ensures.requirement) last.0 last.1)),
)
