use Rattle.std.proofs.Common.{◌≡◌, ◌^◌, map, get_or, refl, ap, sym, ◌∙◌, arith}
use Rattle.words.specs.Words.{digits}
use Rattle.words.proofs.Digits.{digit_at, digit_none, no_digit}
use Rattle.rows.proofs.Packing.{no_row, row_there}
use Rattle.rows.proofs.row_set.number_in_word.Goals as goal

pub returns-in-Some : goal.returns-in-Some
returns-in-Some c =
    let rows = map (digits (2 ^ c.args.bits) c.args.long) c.args.words.now in
    let there = row_there rows c.args.bits c.args.long c.args.at c.in-Some.word c.args.words.now refl (sym c.in-Some.ensures) in
    c.number_at.ensures ∙ sym (digit_at (2 ^ c.args.bits) c.args.long c.in-Some.word c.args.place c.if-place-long.true) ∙ ap (λ l. get_or l c.args.place 0) (sym there)

pub returns-in_default : goal.returns-in_default
returns-in_default c =
    let rows = map (digits (2 ^ c.args.bits) c.args.long) c.args.words.now in
    let there = row_there rows c.args.bits c.args.long c.args.at c.in-Some.word c.args.words.now refl (sym c.in-Some.ensures) in
    sym (ap (λ l. get_or l c.args.place 0) there ∙ no_digit (2 ^ c.args.bits) c.args.long c.in-Some.word c.args.place (omega arith))

pub returns-in_default-2 : goal.returns-in_default-2
returns-in_default-2 c =
    let rows = map (digits (2 ^ c.args.bits) c.args.long) c.args.words.now in
    let there = row_there rows c.args.bits c.args.long c.args.at c.in-Some.word c.args.words.now refl (sym c.in-Some.ensures) in
    let none : c.args.bits ≡ 0 = omega arith in
    sym (ap (λ l. get_or l c.args.place 0) there ∙ ap (λ b. get_or (digits (2 ^ b) c.args.long c.in-Some.word) c.args.place 0) none ∙ digit_none c.args.long c.in-Some.word c.args.place)

pub returns-in_default-3 : goal.returns-in_default-3
returns-in_default-3 c = sym (ap (λ l. get_or l c.args.place 0) (no_row c.args.bits c.args.long c.args.at c.args.words.now (sym c.get.ensures ∙ c.in_default.is)))
