use Rattle.std.proofs.Common.{◌≡◌, ◌<◌, ◌≤◌, ◌+◌, ◌-◌, ◌*◌, ◌%◌, ◌^◌, length, get_or, ap, subst, arith}
use Rattle.std.proofs.Math.Nat.{mod-eq_of_lt, mod-le}
use Rattle.std.proofs.lemmas.Nat.{pow_pos}
use Rattle.std.proofs.lemmas.List.{get_or_default}
use Rattle.words.proofs.Digits.{AreBelow, below_one_more, is_word, one_fits, packed_lt, packed_more}
use Rattle.std.proofs.lemmas.Grind.{common_steps}
use Rattle.words.proofs.words.packed.Goals as goal

pub overflow_add-word : goal.overflow_add-word
overflow_add-word c =
    let base = c.base_of-base.ensures.is in
    let lt = packed_lt (2 ^ c.args.bits) (pow_pos c.args.bits) c.args.row.now c.loop-at.at c.loop-at.word c.loop-at.auto.at-end c.loop-at.invariant.word c.loop-at.invariant.below in
    let less : get_or c.args.row.now (length c.args.row.now - 1 - c.loop-at.at) 0 < 2 ^ c.args.bits = subst (λ b. get_or c.args.row.now (length c.args.row.now - 1 - c.loop-at.at) 0 < b) base c.if-number-base.false in
    let fits = one_fits c.args.bits (length c.args.row.now) c.requires.room c.loop-at.word (get_or c.args.row.now (length c.args.row.now - 1 - c.loop-at.at) 0) c.loop-at.at lt less (omega arith) in
    let most : c.loop-at.word * 2 ^ c.args.bits % 2 ^ 128 ≤ c.loop-at.word * 2 ^ c.args.bits = mod-le (c.loop-at.word * 2 ^ c.args.bits) (2 ^ 128) in
    omega (arith, fits, most)

pub loop-at-preserved : goal.loop-at-preserved
loop-at-preserved c =
    let base = c.base_of-base.ensures.is in
    let number = get_or c.args.row.now (length c.args.row.now - 1 - c.loop-at.at) 0 in
    let lt = packed_lt (2 ^ c.args.bits) (pow_pos c.args.bits) c.args.row.now c.loop-at.at c.loop-at.word c.loop-at.auto.at-end c.loop-at.invariant.word c.loop-at.invariant.below in
    let less : number < 2 ^ c.args.bits = subst (λ b. number < b) base c.if-number-base.false in
    let fits = one_fits c.args.bits (length c.args.row.now) c.requires.room c.loop-at.word number c.loop-at.at lt less (omega arith) in
    let whole : c.loop-at.word * 2 ^ c.args.bits < 2 ^ 128 = omega (arith, fits) in
    let here : number ≡ get_or c.args.row.now (length c.args.row.now - 1 - c.loop-at.at) number = get_or_default c.args.row.now (length c.args.row.now - 1 - c.loop-at.at) 0 number (omega arith) in
    record {
      base = base;
      word = packed_more (2 ^ c.args.bits) (pow_pos c.args.bits) c.args.row.now c.loop-at.at number (omega arith) here c.loop-at.word _ c.loop-at.invariant.word (ap (λ x. x + number) (mod-eq_of_lt whole));
      below = below_one_more (2 ^ c.args.bits) (pow_pos c.args.bits) c.args.row.now c.loop-at.at number (omega arith) here less c.loop-at.invariant.below;
    }

pub returns : goal.returns
returns c = grind (arith, common_steps, pow_pos, AreBelow, is_word)
