use Rattle.std.proofs.Common.{subst, rules}
use Rattle.linspec.specs.JudgedHistory.{IsVerdictOn, with_event}
use Rattle.monitor.specs.Monitors.{MonitorView}
use Rattle.monitor.proofs.Changes.{fault_judged}
use Rattle.monitor.proofs.Prepared.{fault_ready}
use Rattle.monitor.proofs.monitor.Monitor.prepare_fault.Goals as goal

pub invariant_of-self-2 : goal.invariant_of-self-2
invariant_of-self-2 c = fault_ready c.judging_law.ensures c.self.invariant c.args.event c.in_ok-prepare_push.ensures.prepared c.in_ok-prepare_push.ensures.well_formed c.requires

pub returns : goal.returns
returns c = record {
  well_formed = search rules;
  prepared = search rules;
  verdict = subst (λ (s : MonitorView). IsVerdictOn (with_event c.args.event s.now) c.self.inside.verdict) c.self.view_is
      (fault_judged c.judging_law.ensures c.self.invariant.now c.args.event c.in_ok-prepare_push.ensures.well_formed c.requires).is_verdict;
  refused = search rules;
  memory_last = search rules;
  err = search rules;
}
