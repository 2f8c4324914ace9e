use Rattle.std.proofs.Common.{◌≡◌, ◌∷◌, sym, subst, arith}
use Rattle.edn.specs.Bytes.{SpellsByte}
use Rattle.edn.specs.Bytes.SpellsByte.{itself, escaped}
use Rattle.edn.proofs.string.next_byte.Goals as goal

pub returns-then-first-ne92-clause-found : goal.returns-then-first-ne92-clause-found
returns-then-first-ne92-clause-found c =
    let whole : c.args.text.now ≡ c.in_ok-first.first.now ∷ c.in_ok-first.rest.now = grind arith in
    subst (λ t. SpellsByte t c.in_ok-first.first.now c.in_ok-first.rest.now) (sym whole) (itself (λ e. omega (arith, c.if-first-eq34.false)) (λ e. omega (arith, c.if-first-ne92.true)))

pub returns-clause-found : goal.returns-clause-found
returns-clause-found c =
    let whole : c.args.text.now ≡ 92 ∷ c.in_ok-letter.letter.now ∷ c.in_ok-letter.behind.now = grind arith in
    subst (λ t. SpellsByte t c.in_ok-byte.byte c.in_ok-letter.behind.now) (sym whole) (escaped c.in_ok-byte.ensures.found)
