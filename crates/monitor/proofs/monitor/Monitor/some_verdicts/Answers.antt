use Rattle.std.proofs.Common.{subst}
use Rattle.linspec.specs.declared.verdict.Verdict.{Verdict}
use Rattle.linspec.specs.JudgedHistory.{IsVerdictOn, rewound}
use Rattle.monitor.specs.Monitors.{MonitorView}
use Rattle.monitor.proofs.monitor.Monitor.some_verdicts.Goals as goal

pub returns : goal.returns
returns c n =
    subst (λ (s : MonitorView). (v : Verdict) × IsVerdictOn (rewound n s.now) v) c.self.view_is
    (c.judged_prefixes_law.ensures _ _ _ n c.self.invariant.now)
