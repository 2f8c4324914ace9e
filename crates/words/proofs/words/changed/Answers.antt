use Rattle.std.proofs.Common.{◌+◌, ◌-◌, ◌%◌, ◌^◌, ap, ◌∙◌, arith}
use Rattle.words.proofs.Digits.{row_lt, row_word}
use Rattle.words.proofs.words.changed.Goals as goal

pub overflow_add-result : goal.overflow_add-result
overflow_add-result c =
    let r = c.requires in
    let lt = row_lt c.args.bits c.args.long c.args.word c.args.to c.args.place c.args.slot r.some r.room r.exact r.to r.after r.within r.zero_there r.slot in
    let first = c.first_of.ensures in
    omega (arith, lt, first)

pub overflow_add-result-2 : goal.overflow_add-result-2
overflow_add-result-2 c = grind (arith, row_lt)

pub returns : goal.returns
returns c =
    let r = c.requires in
    row_word c.args.bits c.args.long c.args.word c.args.to c.args.place c.args.slot r.some r.room r.exact r.to r.after r.within r.zero_there r.slot _
    (ap (λ x. c.args.word - x + c.args.to + c.placed.result) c.first_of.ensures ∙ ap (λ x. c.args.word - c.args.word % 2 ^ c.args.bits + c.args.to + x) c.placed.ensures)
