use Rattle.std.proofs.Common.{◌≡◌, ◌∷◌, refl, sym, subst, arith}
use Rattle.edn.specs.Text.{SkipsGap}
use Rattle.edn.specs.Text.SkipsGap.{no_gap, white}
use Rattle.plain_events.proofs.word.past_end.Goals as goal

pub returns-then-first-eq32-clause-gap : goal.returns-then-first-eq32-clause-gap
returns-then-first-eq32-clause-gap c d =
    let first : c.args.text.now ≡ 32 ∷ c.in_ok-first.behind.now = grind arith in
    subst (λ t. SkipsGap d t c.past_white.result.now) (sym first) (white refl (c.past_white.ensures d))

pub returns-then-first-eq44-clause-gap : goal.returns-then-first-eq44-clause-gap
returns-then-first-eq44-clause-gap c d =
    let first : c.args.text.now ≡ 44 ∷ c.in_ok-first.behind.now = grind arith in
    subst (λ t. SkipsGap d t c.past_more.result.now) (sym first) (white refl (c.past_more.ensures d))

pub returns-then-first-eq93-clause-gap : goal.returns-then-first-eq93-clause-gap
returns-then-first-eq93-clause-gap c d = no_gap
