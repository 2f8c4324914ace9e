use Rattle.std.proofs.Common.{◌+◌, ◌*◌, ◌≤◌, ℕ, List, length, ap, ◌∙◌, subst, arith}
use Rattle.linspec.specs.KeyHistory.{KeyHistory}
use Rattle.monitor.specs.Judged.{rows_of}
use Rattle.history.specs.WellFormed.{HistoryView}
use Rattle.linspec.specs.JudgedHistory.{IsVerdictOn, rewound}
use Rattle.monitor.specs.Monitors.{MonitorView}
use Rattle.monitor.specs.Rows.{nows, losing}
use Rattle.monitor.proofs.Again.{few_in}
use Rattle.monitor.proofs.Changes.{cut_judged}
use Rattle.monitor.proofs.Cutting.{are_cut}
use Rattle.monitor.proofs.Borrowed.{judged_borrowed}
use Rattle.monitor.proofs.Prepared.{rewind_ready}
use Rattle.monitor.proofs.monitor.Monitor.prepare_rewind.Goals as goal

pub prepare_cut-requires-2 : goal.prepare_cut-requires-2
prepare_cut-requires-2 c = judged_borrowed c.self.invariant.now c.events.result.now (c.events.ensures ∙ ap (λ (x : HistoryView). x.events) c.in_ok-prepare_cut.ensures.prepared)

pub invariant_of-self-2 : goal.invariant_of-self-2
invariant_of-self-2 c =
    rewind_ready c.judging_law.ensures c.self.invariant c.args.n c.in_ok-kept.kept c.in_ok-prepare_cut.ensures.within c.in_ok-prepare_cut.ensures.prepared
    c.in_ok-kept.ensures.kept_lines c.in_ok-kept.ensures.verdict (are_cut c.args.n c.self.inside.lines.rows c.in_ok-kept.ensures.next) c.in_ok-kept.ensures.kept

pub returns-clause-verdict : goal.returns-clause-verdict
returns-clause-verdict c =
    subst (λ (s : MonitorView). IsVerdictOn (rewound c.args.n s.now) c.in_ok-kept.verdict) c.self.view_is
    (cut_judged c.judging_law.ensures c.self.invariant.now c.args.n c.in_ok-kept.kept c.in_ok-kept.ensures.kept_lines c.in_ok-kept.ensures.verdict).is_verdict

pub returns-clause-few : goal.returns-clause-few
returns-clause-few c =
    let a = c.self.inside in
    let judged_again = c.prepare_cut-2.new.judged_again in
    subst (λ (s : MonitorView). judged_again ≤ s.judged_again + 63 * length (losing c.args.n (rows_of s.now))) c.self.view_is
    (subst (λ (l : List (ℕ × KeyHistory)). judged_again ≤ a.judged_again + 63 * length (losing c.args.n l)) c.self.invariant.now.rows_are
    (let few = few_in c.args.n (nows a.lines.rows) in omega (arith, few, c.in_ok-kept.ensures.counted)))
