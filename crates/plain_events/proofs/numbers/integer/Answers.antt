use Rattle.std.proofs.Common.{◌≡◌, ◌∷◌, arith}
use Rattle.std.proofs.lemmas.Int.{ints}
use Rattle.plain_events.proofs.Numerals.{plain_by, minus_by}
use Rattle.plain_events.proofs.numbers.integer.Goals as goal

pub returns-then-first-eq45 : goal.returns-then-first-eq45
returns-then-first-eq45 c =
    let first : c.args.text.now ≡ 45 ∷ c.in_ok-first.inner.now = grind arith in
    minus_by _ _ c.in_ok-size.size _ _ (grind (arith, ints, c.negated.ensures)) first c.in_ok-size.ensures

pub returns : goal.returns
returns c = plain_by _ c.in_ok-size-2.size _ _ (grind (arith, ints, c.plain.ensures)) c.in_ok-size-2.ensures
