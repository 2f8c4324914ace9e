use Rattle.std.proofs.Common.{◌≡◌, ℕ, sym, ◌∙◌, subst}
use Rattle.processes.specs.MoveRule.{current_of}
use Rattle.models.specs.declared.operation.Op.{Op}
use Rattle.events.specs.declared.event.Event.{Event}
use Rattle.history.specs.WellFormed.{moves_of}
use Rattle.machine.specs.Trials.{invocation}
use Rattle.linspec.specs.JudgedHistory.{IsVerdictOn, with_event}
use Rattle.monitor.specs.Monitors.{Admits}
use Rattle.harness.proofs.Showing.{current_by}
use Rattle.harness.proofs.event_changes.invoke.Goals as goal

pub append-requires : goal.append-requires
append-requires c =
    let old = c.args.monitor.now.now in
    let process : c.current-process.result ≡ current_of old.concurrency (moves_of old.events) c.args.thread = c.current-process.ensures ∙ current_by c.args.monitor.now c.history.result.now c.args.thread (c.history.ensures.concurrency, c.history.ensures.events) in
    subst (λ (p : ℕ). Admits old (invocation p c.in_ok-copy.copy)) (sym process)
    (subst (λ (o : Op). Admits old (invocation (current_of old.concurrency (moves_of old.events) c.args.thread) o)) (sym c.in_ok-copy.ensures) c.requires.takes)

pub returns-clause-verdict : goal.returns-clause-verdict
returns-clause-verdict c =
    let old = c.args.monitor.now.now in
    let process : c.current-process.result ≡ current_of old.concurrency (moves_of old.events) c.args.thread = c.current-process.ensures ∙ current_by c.args.monitor.now c.history.result.now c.args.thread (c.history.ensures.concurrency, c.history.ensures.events) in
    let op : c.in_ok-copy.copy ≡ c.args.op = c.in_ok-copy.ensures in
    subst (λ (e : Event). IsVerdictOn (with_event e old) c.in_ok-verdict.verdict) (λ i. invocation (process i) (op i)) c.in_ok-verdict.ensures.verdict
