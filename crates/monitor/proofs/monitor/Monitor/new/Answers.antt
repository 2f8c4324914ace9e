use Rattle.std.proofs.Common.{[], refl, sym, subst}
use Rattle.linspec.specs.JudgedHistory.{opening_of}
use Rattle.linspec.specs.declared.verdict.Verdict.TheVariants.{Legal}
use Rattle.history.specs.WellFormed.{HistoryView}
use Rattle.monitor.specs.Judged.{IsJudged}
use Rattle.monitor.specs.Loading.{with_all}
use Rattle.monitor.specs.Rows.{nows}
use Rattle.monitor.proofs.Verdicts.{IsHistoryOf-none}
use Rattle.monitor.proofs.monitor.Monitor.new.Goals as goal

pub of_lines-requires : goal.of_lines-requires
of_lines-requires c =
    subst (λ (h : HistoryView). IsJudged (with_all h.concurrency c.args.kind c.args.budget h.events) (nows c.new-lines.result.rows) Legal) (sym c.in_ok-history.ensures.opened)
    (rw c.new-lines.ensures (c.judging_law.ensures (opening_of c.args.concurrency c.args.kind c.args.budget) [] Legal (IsHistoryOf-none c.args.concurrency) refl ([], tt, c.no_keys_law.ensures)))
