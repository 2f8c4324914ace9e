use Rattle.std.proofs.Common.{◌≡◌, ◌∷◌, refl, sym, subst, arith}
use Rattle.edn.specs.Text.{SkipsGap}
use Rattle.edn.specs.Text.SkipsGap.{no_gap, white}
use Rattle.plain_events.proofs.word.past_line_feed.Goals as goal

pub returns-in-Some : goal.returns-in-Some
returns-in-Some c d =
    let first : c.args.text.now ≡ 10 ∷ c.in-Some.behind.now = grind arith in
    subst (λ t. SkipsGap d t c.in-Some.behind.now) (sym first) (white refl no_gap)

pub returns-in_default : goal.returns-in_default
returns-in_default c d = no_gap

pub returns-in_default-2 : goal.returns-in_default-2
returns-in_default-2 c d = no_gap
