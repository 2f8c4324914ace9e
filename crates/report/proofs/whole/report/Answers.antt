use Rattle.std.proofs.Common.{◌++◌, ap, ◌∙◌}
use Rattle.report.specs.Report.{IsReport}
use Rattle.report.proofs.Lines.{on_grown}
use Rattle.report.proofs.whole.report.Goals as goal

pub returns-clause-ok : goal.returns-clause-ok
returns-clause-ok c =
    let rows = c.in_ok-text.ensures in
    let whole : IsReport c.args.monitor.now.now c.append_verdict.new.reply.items = record {
      lines = c.in_ok-text.text.items;
      rows = rows;
      verdict = c.verdict_of.result;
      judged = c.verdict_of.ensures.judged;
      joined = c.verdict_of.ensures.joined rows.rows rows.keys_are rows.stand;
      text_is = c.in_ok-append_verdict.ensures.ok;
    }
    in
    on_grown c.extend_from_slice.result c.extend_from_slice.new.self.items (c.args.bytes.now.items ++ c.as_slice.result.now) c.args.bytes.now.items c.extend_from_slice.ensures.items
    (λ e. (c.append_verdict.new.reply.items, whole, e ∙ ap (λ l. c.args.bytes.now.items ++ l) c.as_slice.ensures.value))
