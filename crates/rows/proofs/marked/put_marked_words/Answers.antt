use Rattle.std.proofs.Common.{◌≡◌, ◌+◌, ◌^◌, ◌<◌, true, false, map, length, get_or, refl, sym, ◌∙◌, subst, arith}
use Rattle.std.specs.List.{remove}
use Rattle.std.proofs.lemmas.List.Edits.{length-remove}
use Rattle.std.proofs.lemmas.Option.{slice_get-get_or}
use Rattle.rows.specs.RowSets.{PutsMarked}
use Rattle.words.specs.Words.{ArePacked, digits}
use Rattle.words.proofs.Digits.{length-digits}
use Rattle.rows.proofs.Marks.{marked_digit, puts_more}
use Rattle.rows.proofs.Packing.{packed_still, put_word, row_there}
use Rattle.rows.proofs.marked.put_marked_words.Goals as goal
use Rattle.rows.proofs.marked.put_marked_words.Goals.{then-has_mark+in_ok-put, else-has_mark}

pub unreachable-requires : goal.unreachable-requires
unreachable-requires c =
    let here : c.loop-at.at < length c.args.others.now = omega arith in
    c.in_default.not-Some (get_or c.args.others.now c.loop-at.at 0) (c.get.ensures ∙ slice_get-get_or c.args.others.now c.loop-at.at 0 here)

pub loop-at-preserved : goal.loop-at-preserved
loop-at-preserved c =
    let base = 2 ^ c.args.bits in
    let rows = map (digits base (c.args.long + 1)) c.args.others.now in
    let row = digits base (c.args.long + 1) c.in-Some.word in
    let old = map (digits base c.args.long) c.args.words.now in
    let there = row_there rows c.args.bits (c.args.long + 1) c.loop-at.at c.in-Some.word c.args.others.now refl (sym c.in-Some.ensures) in
    let mark = marked_digit base (c.args.long + 1) c.in-Some.word c.args.place c.number_at.result c.args.marks.now c.requires.within c.number_at.ensures in
    let so = c.loop-at.invariant in
    elim c.if-has_mark.branch [
      | then-has_mark+in_ok-put w ↦
          let all = length-digits base (c.args.long + 1) c.in-Some.word in
          let gone = length-remove row c.args.place (subst (λ n. c.args.place < n) (sym all) c.requires.within) in
          let is_long : length (remove row c.args.place) ≡ c.args.long = omega (arith, all, gone) in
          record {
            put = subst (λ ws. PutsMarked c.args.place c.args.marks.now rows (c.loop-at.at + 1) old (map (digits base c.args.long) ws)) (sym w.words-is)
                (puts_more c.args.place c.args.marks.now rows c.loop-at.at row old (map (digits base c.args.long) c.loop-at.words) (map (digits base c.args.long) w.put.new.self) true there
                (sym mark ∙ sym c.has_mark.ensures ∙ w.if-has_mark.true) so.put
                (put_word c.args.bits c.args.long (remove row c.args.place) w.without.result is_long w.without.ensures c.loop-at.words w.put.new.self so.packed w.in_ok-put.ensures.put));
            packed = subst (ArePacked c.args.bits c.args.long) (sym w.words-is)
                (packed_still c.args.bits c.args.long (remove row c.args.place) w.without.result is_long w.without.ensures c.loop-at.words w.put.new.self so.packed w.in_ok-put.ensures.put);
          }
      | else-has_mark w ↦ record {
        put = subst (λ ws. PutsMarked c.args.place c.args.marks.now rows (c.loop-at.at + 1) old (map (digits base c.args.long) ws)) (sym w.words-is)
            (puts_more c.args.place c.args.marks.now rows c.loop-at.at row old (map (digits base c.args.long) c.loop-at.words) (map (digits base c.args.long) c.loop-at.words) false there
            (sym mark ∙ sym c.has_mark.ensures ∙ w.if-has_mark.false) so.put refl);
        packed = subst (ArePacked c.args.bits c.args.long) (sym w.words-is) so.packed;
      }
    ]
