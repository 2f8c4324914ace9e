-- with nothing after them
use Rattle.std.proofs.Common.{◌↔◌, IsTrue, List, [], ◌++◌, subst}
use Rattle.std.proofs.lemmas.List.{append-nil}
use Rattle.std.proofs.lemmas.Result.{IfOk-weaker}
use Rattle.models.specs.Objects.{unordered_queue}
use Rattle.witness.specs.declared.calls.Call.{Call}
use Rattle.witness.specs.Calls.{CanRun}
use Rattle.witness.specs.Requirements.{IsRequirement}
use Rattle.witness.proofs.queue.can_run.Goals as goal

pub returns : goal.returns
returns c = IfOk-weaker c.can_run_before.result
    (λ b. (later : List Call) → IsRequirement later c.no_requirement.result → IsTrue b ↔ CanRun unordered_queue (c.args.calls.now ++ later) [])
    (λ b. IsTrue b ↔ CanRun unordered_queue c.args.calls.now [])
    (λ b h. subst (λ l. IsTrue b ↔ CanRun unordered_queue l []) (append-nil c.args.calls.now) (h [] c.no_requirement.ensures.requirement))
    c.can_run_before.ensures
