use Rattle.products.proofs.Numbers.{has_either}
use Rattle.products.proofs.number_set.union.Goals as goal

pub returns-then-other-lt-HIGH : goal.returns-then-other-lt-HIGH
returns-then-other-lt-HIGH c n = has_either c.args.set c.args.other n c.if-set-lt-HIGH.true c.if-other-lt-HIGH.true
