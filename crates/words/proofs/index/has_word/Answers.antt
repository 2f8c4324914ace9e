use Rattle.std.proofs.Common.{◌≡◌, length, get_or, sym, ap, ◌∙◌, rules, arith}
use Rattle.std.proofs.lemmas.List.{get_or-map, get_or_default}
use Rattle.std.proofs.lemmas.Grind.{common_steps}
use Rattle.buckets.specs.Index.{word_bucket}
use Rattle.words.proofs.index.has_word.Goals as goal

pub returns-clause-not_there : goal.returns-clause-not_there
returns-clause-not_there c none there =
    let many = length c.args.index.now.last.items in
    let asked = c.find.ensures.none (search rules) there.0 there.1 (get_or-map (word_bucket many) c.args.words.now there.0 c.args.word 0 there.1 ∙ ap (word_bucket many) there.2 ∙ sym c.requires.bucket) in
    let here : get_or c.args.words.now there.0 0 ≡ c.args.word = get_or_default c.args.words.now there.0 0 c.args.word there.1 ∙ there.2 in
    grind (arith, common_steps, asked, here)
