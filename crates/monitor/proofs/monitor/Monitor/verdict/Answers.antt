use Rattle.std.proofs.Common.{subst}
use Rattle.linspec.specs.JudgedHistory.{IsVerdictOn}
use Rattle.monitor.specs.Monitors.{MonitorView}
use Rattle.monitor.proofs.monitor.Monitor.verdict.Goals as goal

pub returns : goal.returns
returns c = subst (λ (s : MonitorView). IsVerdictOn s.now c.self.inside.verdict) c.self.view_is c.self.invariant.now.is_verdict
