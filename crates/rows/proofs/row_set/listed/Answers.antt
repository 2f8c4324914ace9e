use Rattle.std.proofs.Common.{◌<◌, length, get_or, sym, ◌∙◌, arith}
use Rattle.std.proofs.lemmas.Option.{slice_get-get_or}
use Rattle.rows.proofs.Packing.{listed_more}
use Rattle.rows.proofs.row_set.listed.Goals as goal

pub unreachable-requires : goal.unreachable-requires
unreachable-requires c =
    let here : c.loop-at.at < length c.args.words.now = omega arith in
    c.in_default.not-Some (get_or c.args.words.now c.loop-at.at 0) (c.get.ensures ∙ slice_get-get_or c.args.words.now c.loop-at.at 0 here)

pub loop-at-preserved : goal.loop-at-preserved
loop-at-preserved c =
    listed_more c.args.bits c.args.long c.args.words.now c.requires c.len-at-end.ensures.apart c.loop-at.at c.in-Some.word (sym c.in-Some.ensures)
    c.unpack.new.row.items c.in_ok-unpack.ensures c.loop-at.lists c.put.new.self c.in_ok-put.ensures.put c.loop-at.invariant
