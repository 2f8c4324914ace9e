use Rattle.std.proofs.Common.{◌≡◌, ◌+◌, ◌-◌, ◌%◌, ◌^◌, bit_and, ap, sym, ◌∙◌, arith}
use Rattle.std.proofs.Math.Pow.{mod-mod-pow}
use Rattle.std.proofs.lemmas.Nat.{and_mask}
use Rattle.words.proofs.words.first_of.Goals as goal

pub returns : goal.returns
returns c =
    let whole : 64 - c.args.bits + c.args.bits ≡ 64 = omega arith in
    ap (λ b. bit_and c.low_half.result b) c.largest_of.ensures
    ∙ and_mask c.low_half.result c.args.bits
    ∙ ap (λ x. x % 2 ^ c.args.bits) (c.low_half.ensures ∙ ap (λ k. c.args.word % 2 ^ k) (sym whole))
    ∙ mod-mod-pow c.args.word (64 - c.args.bits) c.args.bits
