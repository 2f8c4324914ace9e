use Rattle.std.proofs.Common.{◌≡◌, ◌+◌, ◌-◌, ◌*◌, ◌/◌, ◌^◌, ap, ◌∙◌}
use Rattle.std.proofs.lemmas.Nat.{pow_pos}
use Rattle.words.proofs.Removing.{shifted, without_word}
use Rattle.words.proofs.words.without.Goals as goal

pub returns-in-Ok : goal.returns-in-Ok
returns-in-Ok c =
    let p = 2 ^ (c.args.bits * c.args.place) in
    let same : c.in-Ok.half ≡ c.args.word = c.in-Ok.ensures.1 in
    without_word (2 ^ c.args.bits) (pow_pos c.args.bits) c.args.long c.args.word c.args.place _ c.requires.within c.requires.exact
    (c.without_in_half.ensures ∙ ap (λ w. w - w / p * p + w / p / 2 ^ c.args.bits * p) same ∙ shifted c.args.bits c.args.place c.args.word)

pub returns-in_default : goal.returns-in_default
returns-in_default c =
    without_word (2 ^ c.args.bits) (pow_pos c.args.bits) c.args.long c.args.word c.args.place _ c.requires.within c.requires.exact
    (c.without_in_whole.ensures ∙ shifted c.args.bits c.args.place c.args.word)
