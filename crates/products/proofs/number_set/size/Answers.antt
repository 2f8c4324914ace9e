use Rattle.products.proofs.Numbers.{size_is, size_alone}
use Rattle.products.proofs.number_set.size.Goals as goal

pub returns-then-set-lt-HIGH : goal.returns-then-set-lt-HIGH
returns-then-set-lt-HIGH c = size_is c.args.set c.if-set-lt-HIGH.true

pub returns-else-set-lt-HIGH : goal.returns-else-set-lt-HIGH
returns-else-set-lt-HIGH c = size_alone c.args.set c.if-set-lt-HIGH.false
