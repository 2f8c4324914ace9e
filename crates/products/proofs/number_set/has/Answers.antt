use Rattle.products.proofs.Numbers.{test_bit, test_beyond, test_alone}
use Rattle.products.proofs.number_set.has.Goals as goal

pub returns-then-number-lt-BITS : goal.returns-then-number-lt-BITS
returns-then-number-lt-BITS c = test_bit c.args.set c.args.number c.if-set-lt-HIGH.true c.if-number-lt-BITS.true

pub returns-else-number-lt-BITS : goal.returns-else-number-lt-BITS
returns-else-number-lt-BITS c = test_beyond c.args.set c.args.number c.if-set-lt-HIGH.true c.if-number-lt-BITS.false

pub returns-else-set-lt-HIGH : goal.returns-else-set-lt-HIGH
returns-else-set-lt-HIGH c = test_alone c.args.set c.args.number c.if-set-lt-HIGH.false
