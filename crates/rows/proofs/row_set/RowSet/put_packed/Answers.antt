use Rattle.std.proofs.Common.{◌^◌, map, sym, ◌∙◌, subst}
use Rattle.words.specs.Puts.{IsPut}
use Rattle.words.specs.Words.{digits, rows_in}
use Rattle.rows.proofs.Packing.{put_word, shows_words}
use Rattle.rows.proofs.row_set.RowSet.put_packed.Goals as goal

pub returns-in-Some-clause-put : goal.returns-in-Some-clause-put
returns-in-Some-clause-put c = λ _.
    let i = c.self.inside in
    let narrow = c.if-not-self.true in
    let old = sym (shows_words i.wide i.bits i.long i.words i.lists narrow) ∙ c.self.view_is in
    subst (λ l. IsPut c.args.row.now l (rows_in i.wide i.bits i.long c.put.new.self i.lists)) old
    (subst (IsPut c.args.row.now (map (digits (2 ^ i.bits) i.long) i.words)) (sym (shows_words i.wide i.bits i.long c.put.new.self i.lists narrow))
    (put_word i.bits i.long c.args.row.now c.in-Some.word c.if-row-self.true c.in-Some.ensures i.words c.put.new.self c.self.invariant c.in_ok-put.ensures.put))
