use Rattle.std.proofs.Common.{◌^◌, map, take, ap, sym, ◌∙◌}
use Rattle.std.specs.List.{take-map}
use Rattle.words.specs.Words.{digits}
use Rattle.rows.proofs.Packing.{shows_words}
use Rattle.rows.proofs.row_set.RowSet.truncate.Goals as goal

pub returns-else-self : goal.returns-else-self
returns-else-self c =
    let i = c.self.inside in
    shows_words i.wide i.bits i.long _ i.lists c.if-self.false ∙ ap (map (digits (2 ^ i.bits) i.long)) c.truncate-else-self.ensures ∙ sym (take-map (digits (2 ^ i.bits) i.long) c.args.len i.words)
    ∙ ap (take c.args.len) (sym (shows_words i.wide i.bits i.long i.words i.lists c.if-self.false) ∙ c.self.view_is)
