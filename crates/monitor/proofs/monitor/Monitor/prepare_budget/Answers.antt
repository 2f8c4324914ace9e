use Rattle.std.proofs.Common.{subst}
use Rattle.linspec.specs.JudgedHistory.{IsVerdictOn, with_budget}
use Rattle.monitor.specs.Monitors.{MonitorView}
use Rattle.monitor.proofs.monitor.Monitor.prepare_budget.Goals as goal

pub returns-clause-verdict : goal.returns-clause-verdict
returns-clause-verdict c = subst (λ (s : MonitorView). IsVerdictOn (with_budget c.args.key c.args.n s.now) c.in_ok-prepare_set.field-0) c.self.view_is c.in_ok-prepare_set.ensures.verdict
