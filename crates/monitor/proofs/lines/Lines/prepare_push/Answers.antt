use Rattle.std.proofs.Common.{refl, ap, rules}
use Rattle.monitor.specs.Rows.{LinesView}
use Rattle.monitor.proofs.Preparing.{prepared_at}
use Rattle.monitor.proofs.lines.Lines.prepare_push.Goals as goal

pub returns : goal.returns
returns c = prepared_at c.args.self.now (ap (λ (v : LinesView). v.rows) c.self.view_is) c.args.place c.in-Some.ensures.value c.prepare_push.new.self refl (search rules)
    c.prepare_push.ensures.status c.prepare_push.ensures.prepared c.prepare_push.ensures.err
