use Rattle.std.proofs.Common.{ap, ◌∙◌, subst}
use Rattle.linspec.specs.JudgedHistory.{IsVerdictOn}
use Rattle.checkpoints.specs.KeyLineView.{count_on}
use Rattle.monitor.specs.Monitors.{MonitorView}
use Rattle.monitor.specs.Settings.{with_setting}
use Rattle.monitor.proofs.Again.{events_seen, setting_seen}
use Rattle.monitor.proofs.Borrowed.{judged_borrowed}
use Rattle.monitor.proofs.Prepared.{rebuilt_judged, set_ready}
use Rattle.monitor.proofs.monitor.Monitor.prepare_set.Goals as goal

pub prepare_rebuild-requires-clause-borrowed : goal.prepare_rebuild-requires-clause-borrowed
prepare_rebuild-requires-clause-borrowed c = judged_borrowed c.self.invariant.now c.events-borrowed.result.now c.events-borrowed.ensures

pub invariant_of-self-2 : goal.invariant_of-self-2
invariant_of-self-2 c =
    set_ready c.judging_law.ensures c.self.invariant c.args.key c.args.setting c.in_ok-kind.ensures.same c.in_ok-kind.ensures.room c.find-place.ensures c.in_ok-kind.ensures.kind c.in_ok-kind.ensures.budget
    c.in_ok-verdict.ensures.rebuilt c.in_ok-verdict.ensures.kept

pub returns-clause-verdict : goal.returns-clause-verdict
returns-clause-verdict c =
    subst (λ (s : MonitorView). IsVerdictOn (with_setting c.args.key c.args.setting s.now) c.in_ok-verdict.verdict) c.self.view_is
    (rebuilt_judged c.judging_law.ensures c.self.inside.lines c.self.invariant.now c.args.key c.args.setting c.find-place.ensures c.in_ok-kind.ensures.kind c.in_ok-kind.ensures.budget c.in_ok-verdict.ensures.rebuilt).is_verdict

pub returns-clause-prepared : goal.returns-clause-prepared
returns-clause-prepared c =
    setting_seen c.self.inside c.args.key c.args.setting c.self.view_is c.in_ok-kind.ensures.same
    (c.in_ok-verdict.ensures.counted ∙ ap (count_on c.self.inside.judged_again) (events_seen c.self.inside.lines.rows c.self.invariant.now c.args.key c.find-place.result c.find-place.ensures))
