use Rattle.std.proofs.Common.{◌≡◌, subst}
use Rattle.monitor.specs.Judged.{rows_of}
use Rattle.monitor.specs.Monitors.{MonitorView}
use Rattle.monitor.specs.Rows.{nows}
use Rattle.monitor.proofs.monitor.Monitor.lines.Goals as goal

pub returns : goal.returns
returns c = subst (λ (s : MonitorView). nows c.self.inside.lines.rows ≡ rows_of s.now) c.self.view_is c.self.invariant.now.rows_are
