use Rattle.std.proofs.Common.{refl, ap, rules}
use Rattle.monitor.specs.Rows.{LinesView}
use Rattle.monitor.proofs.Preparing.{line_borrowed, prepared_at}
use Rattle.monitor.proofs.lines.Lines.prepare_line_cut.Goals as goal

pub prepare_cut-requires : goal.prepare_cut-requires
prepare_cut-requires c = line_borrowed c.args.self.now (ap (λ (v : LinesView). v.rows) c.self.view_is) c.args.place c.in-Some.ensures.value c.args.borrowed.now c.requires.borrowed

pub returns : goal.returns
returns c = prepared_at c.args.self.now (ap (λ (v : LinesView). v.rows) c.self.view_is) c.args.place c.in-Some.ensures.value c.prepare_cut.new.self refl (search rules)
    c.prepare_cut.ensures.status c.prepare_cut.ensures.prepared c.prepare_cut.ensures.err
