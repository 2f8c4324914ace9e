use Rattle.std.proofs.Common.{◌≡◌, ◌^◌, map, length, get_or, set, sym, ap, ◌∙◌, subst, arith}
use Rattle.std.proofs.lemmas.List.{length-map, length-set}
use Rattle.std.proofs.lemmas.Option.{slice_get-get_or}
use Rattle.std.proofs.lemmas.Result.{on_err_weaker, on_ok_weaker}
use Rattle.words.specs.Puts.{IsPut}
use Rattle.words.specs.Words.{digits, rows_in}
use Rattle.words.proofs.Digits.{length-digits}
use Rattle.rows.proofs.Packing.{packed_after, put_word, row_there, shows_words}
use Rattle.std.proofs.lemmas.Grind.{common_steps}
use Rattle.rows.proofs.row_set.RowSet.put_next.Goals as goal

pub unreachable-requires : goal.unreachable-requires
unreachable-requires c =
    let i = c.self.inside in
    let row = digits (2 ^ i.bits) i.long in
    let rows : map row i.words ≡ c.args.self.now = sym (shows_words i.wide i.bits i.long i.words i.lists c.if-not-self.true) ∙ c.self.view_is in
    let long : length i.words ≡ length c.args.self.now = sym (length-map i.words row) ∙ ap length rows in
    let here = c.requires.from in
    c.in_default.not-Some (get_or i.words c.args.from 0) (c.get.ensures ∙ slice_get-get_or i.words c.args.from 0 (omega (arith, long, here)))

pub changed-next-requires-clause-within : goal.changed-next-requires-clause-within
changed-next-requires-clause-within c =
    let i = c.self.inside in
    let rows = sym (shows_words i.wide i.bits i.long i.words i.lists c.if-not-self.true) ∙ c.self.view_is in
    let there = row_there c.args.self.now i.bits i.long c.args.from c.in-Some.word i.words rows (sym c.in-Some.ensures) in
    let long = ap length there ∙ length-digits (2 ^ i.bits) i.long c.in-Some.word in
    let within = c.requires.within in
    omega (arith, long, within)

pub changed-next-requires-clause-zero_there : goal.changed-next-requires-clause-zero_there
changed-next-requires-clause-zero_there c = grind (arith, common_steps, row_there, shows_words)

pub invariant_of-self : goal.invariant_of-self
invariant_of-self c = grind (arith, common_steps, length-set, length-digits, packed_after)

pub returns-then-slot-self-eq0-clause-put : goal.returns-then-slot-self-eq0-clause-put
returns-then-slot-self-eq0-clause-put c =
    let i = c.self.inside in
    let row = digits (2 ^ i.bits) i.long c.in-Some.word in
    let rows = sym (shows_words i.wide i.bits i.long i.words i.lists c.if-not-self.true) ∙ c.self.view_is in
    let there = row_there c.args.self.now i.bits i.long c.args.from c.in-Some.word i.words rows (sym c.in-Some.ensures) in
    let after = rows_in i.wide i.bits i.long c.put.new.self i.lists in
    on_ok_weaker c.put.result
    (λ (put : IsPut c.changed-next.result i.words c.put.new.self).
    subst (λ r. IsPut (set (set r 0 c.args.to) c.args.place c.args.slot) c.args.self.now after) (sym there)
    (subst (λ l. IsPut (set (set row 0 c.args.to) c.args.place c.args.slot) l after) rows
    (subst (IsPut (set (set row 0 c.args.to) c.args.place c.args.slot) (map (digits (2 ^ i.bits) i.long) i.words)) (sym (shows_words i.wide i.bits i.long c.put.new.self i.lists c.if-not-self.true))
    (put_word i.bits i.long (set (set row 0 c.args.to) c.args.place c.args.slot) c.changed-next.result
    (length-set (set row 0 c.args.to) c.args.place c.args.slot ∙ length-set row 0 c.args.to ∙ length-digits (2 ^ i.bits) i.long c.in-Some.word)
    c.changed-next.ensures i.words c.put.new.self c.self.invariant put))))
    c.put.ensures.put

pub returns-then-slot-self-eq0-clause-err : goal.returns-then-slot-self-eq0-clause-err
returns-then-slot-self-eq0-clause-err c =
    let i = c.self.inside in
    on_err_weaker c.put.result (λ (same : c.put.new.self ≡ i.words). ap (λ words. rows_in i.wide i.bits i.long words i.lists) same ∙ c.self.view_is) c.put.ensures.err
