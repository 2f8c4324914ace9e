use Rattle.products.proofs.Numbers.{has_shifted, has_high}
use Rattle.products.proofs.number_set.singleton.Goals as goal

pub returns-then-number-lt-BITS : goal.returns-then-number-lt-BITS
returns-then-number-lt-BITS c = has_shifted c.args.number c.if-number-lt-BITS.true

pub returns-then-number-lt-HIGH : goal.returns-then-number-lt-HIGH
returns-then-number-lt-HIGH c = has_high c.args.number
