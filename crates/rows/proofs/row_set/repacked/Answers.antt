use Rattle.std.proofs.Common.{◌^◌, ◌<◌, map, length, get_or, sym, ap, ◌∙◌, arith}
use Rattle.std.proofs.lemmas.Option.{slice_get-get_or}
use Rattle.words.specs.Words.{digits}
use Rattle.words.proofs.Digits.{length-digits}
use Rattle.rows.proofs.Packing.{listed_more, packed_still, put_word}
use Rattle.std.proofs.lemmas.Grind.{common_steps}
use Rattle.rows.proofs.row_set.repacked.Goals as goal

pub unreachable-requires : goal.unreachable-requires
unreachable-requires c =
    let here : c.loop-at.at < length c.args.words.now = omega arith in
    c.in_default.not-Some (get_or c.args.words.now c.loop-at.at 0) (c.get.ensures ∙ slice_get-get_or c.args.words.now c.loop-at.at 0 here)

pub packed-requires-clause-room : goal.packed-requires-clause-room
packed-requires-clause-room c = grind (arith, common_steps, length-digits)

pub loop-at-preserved : goal.loop-at-preserved
loop-at-preserved c =
    let row = c.deref.result.now in
    let is = c.deref.ensures.value ∙ c.in_ok-unpack.ensures in
    let long = ap length is ∙ length-digits (2 ^ c.args.bits) c.args.long c.in-Some.word in
    let wider = c.in-Some-packed.word in
    let old = c.loop-at.other in
    let new = c.put.new.self in
    let so = c.loop-at.invariant in
    record {
      rows = listed_more c.args.bits c.args.long c.args.words.now c.requires.packed c.len-at-end.ensures.apart c.loop-at.at c.in-Some.word (sym c.in-Some.ensures) row is
          (map (digits (2 ^ c.args.new_bits) c.args.long) old) (map (digits (2 ^ c.args.new_bits) c.args.long) new)
          (put_word c.args.new_bits c.args.long row wider long c.in-Some-packed.ensures old new so.packed c.in_ok-put-in-Some-packed.ensures.put) so.rows;
      packed = packed_still c.args.new_bits c.args.long row wider long c.in-Some-packed.ensures old new so.packed c.in_ok-put-in-Some-packed.ensures.put;
    }
