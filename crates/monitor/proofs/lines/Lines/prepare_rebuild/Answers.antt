use Rattle.std.proofs.Common.{refl, ap, rules}
use Rattle.monitor.specs.Rows.{LinesView}
use Rattle.monitor.proofs.Preparing.{line_borrowed, prepared_at}
use Rattle.monitor.proofs.lines.Lines.prepare_rebuild.Goals as goal

pub prepare_rebuild-requires : goal.prepare_rebuild-requires
prepare_rebuild-requires c = line_borrowed c.args.self.now (ap (λ (v : LinesView). v.rows) c.self.view_is) c.args.place c.in-Some.ensures.value c.args.borrowed.now c.requires.borrowed

pub returns : goal.returns
returns c = prepared_at c.args.self.now (ap (λ (v : LinesView). v.rows) c.self.view_is) c.args.place c.in-Some.ensures.value c.prepare_rebuild.new.self refl (search rules)
    c.prepare_rebuild.ensures.status c.prepare_rebuild.ensures.prepared c.prepare_rebuild.ensures.err
