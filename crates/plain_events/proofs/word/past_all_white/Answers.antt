use Rattle.std.proofs.Common.{◌≡◌, ◌∷◌, IsTrue, sym, subst, arith}
use Rattle.edn.specs.Bytes.{is_white}
use Rattle.edn.specs.Text.{SkipsGap}
use Rattle.edn.specs.Text.SkipsGap.{no_gap, white}
use Rattle.plain_events.proofs.word.past_all_white.Goals as goal

pub loop-first-init : goal.loop-first-init
loop-first-init c = λ d r h. h

pub loop-first-preserved : goal.loop-first-preserved
loop-first-preserved c d r h =
    let first : c.loop-first.rest.now ≡ c.in-Some.first.now ∷ c.in-Some.behind.now = grind arith in
    let on : IsTrue (is_white c.in-Some.first.now) = cc in
    c.loop-first.invariant d r (subst (λ t. SkipsGap d t r) (sym first) (white on h))

pub returns-then-not-is_white : goal.returns-then-not-is_white
returns-then-not-is_white c d = c.loop-first.invariant d _ no_gap

pub returns-in_default : goal.returns-in_default
returns-in_default c d = c.loop-first.invariant d _ no_gap
