use Rattle.std.proofs.Common.{◌≡◌, ℕ, List, [], ◌∷◌, length, refl, arith, subst}
use Rattle.std.proofs.lemmas.Grind.{common_steps}
use Rattle.edn.specs.Text.{SkipsGap}
use Rattle.plain_events.proofs.Spelled.{line_of}
use Rattle.plain_events.proofs.event.plain_line.Goals as goal

length-zero : (t : List ℕ) → length t ≡ 0 → t ≡ []
length-zero [] e = refl
length-zero (x ∷ t) e = absurd (omega arith)

pub returns-then-is_empty : goal.returns-then-is_empty
returns-then-is_empty c =
    let none : length c.past_white.result.now ≡ 0 = grind (arith, common_steps) in
    line_of c.args.line.now c.in_ok-event.rest.now c.in_ok-event.event c.in_ok-event.ensures (subst (λ t. SkipsGap 0 c.in_ok-event.rest.now t) (length-zero _ none) (c.past_white.ensures 0))
