use Rattle.std.proofs.Common.{sym, ◌∙◌}
use Rattle.rows.proofs.Packing.{row_long, shows_words}
use Rattle.rows.proofs.row_set.RowSet.long_at.Goals as goal

pub returns : goal.returns
returns c =
    let i = c.self.inside in
    sym (row_long i.bits i.long c.args.at i.words c.args.self.now (sym (shows_words i.wide i.bits i.long i.words i.lists c.if-self.false) ∙ c.self.view_is) c.requires)
