use Rattle.std.proofs.Common.{◌≡◌, ℕ, List, [], ◌∷◌, refl, sym, subst, arith, length}
use Rattle.edn.specs.Text.{SkipsLine}
use Rattle.edn.specs.Text.SkipsLine.{at_end, at_line_feed, over}
use Rattle.edn.proofs.gap.line_end.Goals as goal

length-zero : (t : List ℕ) → length t ≡ 0 → t ≡ []
length-zero [] e = refl
length-zero (x ∷ t) e = absurd (omega arith)

pub loop-first-preserved : goal.loop-first-preserved
loop-first-preserved c r h =
    let first : c.loop-first.rest.now ≡ c.in-Some.first.now ∷ c.in-Some.after.now = grind arith in
    c.loop-first.invariant r (subst (λ t. SkipsLine t r) (sym first) (over (λ e. omega (arith, c.if-first-eq10.false, e)) h))

pub returns-then-first-eq10 : goal.returns-then-first-eq10
returns-then-first-eq10 c =
    let first : c.loop-first.rest.now ≡ 10 ∷ c.in-Some.after.now = grind arith in
    c.loop-first.invariant _ (subst (λ t. SkipsLine t t) (sym first) at_line_feed)

pub returns-in_default : goal.returns-in_default
returns-in_default c =
    let done : c.loop-first.rest.now ≡ [] = length-zero _ c.in_default.ensures.cases in
    c.loop-first.invariant _ (subst (λ t. SkipsLine t t) (sym done) at_end)
