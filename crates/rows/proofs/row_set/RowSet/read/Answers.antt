use Rattle.std.proofs.Common.{◌≡◌, ◌^◌, Some, None, [], length, map, get_or, slice_get, sym, ap, ◌∙◌, arith}
use Rattle.std.specs.Option.{option_copied}
use Rattle.std.proofs.lemmas.List.{length-map}
use Rattle.std.proofs.lemmas.Option.{slice_get-get_or}
use Rattle.words.specs.Words.{digits, rows_in}
use Rattle.rows.proofs.Packing.{shows_words}
use Rattle.rows.proofs.row_set.RowSet.read.Goals as goal

pub unreachable-requires : goal.unreachable-requires
unreachable-requires c =
    let i = c.self.inside in
    let long = ap length (sym (ap (λ wide. rows_in wide i.bits i.long i.words i.lists) c.if-self.true) ∙ c.self.view_is) in
    let here = c.requires in
    let some : slice_get i.lists c.args.at ≡ Some (get_or i.lists c.args.at []) = slice_get-get_or i.lists c.args.at [] (omega (arith, long, here)) in
    let none : slice_get i.lists c.args.at ≡ None = sym c.get.ensures ∙ ap option_copied c.in_default.is in
    cc

pub unreachable-requires-in_default-get : goal.unreachable-requires-in_default-get
unreachable-requires-in_default-get c =
    let i = c.self.inside in
    let row = digits (2 ^ i.bits) i.long in
    let rows : map row i.words ≡ c.args.self.now = sym (shows_words i.wide i.bits i.long i.words i.lists c.if-self.false) ∙ c.self.view_is in
    let long : length i.words ≡ length c.args.self.now = sym (length-map i.words row) ∙ ap length rows in
    let here = c.requires in
    c.in_default-get.not-Some (get_or i.words c.args.at 0) (c.get-else-self.ensures ∙ slice_get-get_or i.words c.args.at 0 (omega (arith, long, here)))
