use Rattle.std.proofs.Common.{◌≡◌, ◌∷◌, arith}
use Rattle.std.proofs.lemmas.Grind.{common_steps}
use Rattle.plain_events.proofs.Words.{keyword_from}
use Rattle.plain_events.proofs.word.past_keyword.Goals as goal

pub returns : goal.returns
returns c =
    let first : c.args.text.now ≡ 58 ∷ c.in_ok-first.inner.now = grind arith in
    keyword_from _ _ c.args.name.now c.as_bytes.result.now c.past_word.result first (grind (arith, common_steps)) c.requires c.past_word.ensures
