use Rattle.std.proofs.Common.{◌≡◌, ◌∷◌, sym, subst, arith}
use Rattle.edn.specs.Bytes.{SpellsByte}
use Rattle.edn.specs.Bytes.SpellsByte.{escaped}
use Rattle.plain_events.proofs.strings.past_escape.Goals as goal

pub returns : goal.returns
returns c =
    let whole : c.args.text.now ≡ 92 ∷ c.in_ok-letter.letter.now ∷ c.in_ok-letter.rest.now = grind arith in
    let e = c.in_ok-_byte.ensures in
    (c.in_ok-_byte._byte, subst (λ t. SpellsByte t c.in_ok-_byte._byte c.in_ok-letter.rest.now) (sym whole) (escaped e.0), e.1)
