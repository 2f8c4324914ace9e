use Rattle.std.proofs.Common.{arith}
use Rattle.std.proofs.lemmas.Bool.{both_ways}
use Rattle.products.proofs.Numbers.{has_without, has_cleared, has_beyond, nothing_outside, alone_outside}
use Rattle.products.proofs.number_set.difference_with_singleton.Goals as goal

pub returns-then-has : goal.returns-then-has
returns-then-has c = nothing_outside c.args.set c.args.other c.if-set-ge-HIGH.true (c.has.ensures.0 c.if-has.true)

pub returns-else-has : goal.returns-else-has
returns-else-has c =
    alone_outside c.args.set c.args.other c.if-set-ge-HIGH.true (λ h. both_ways c.has.result c.if-has.false (c.has.ensures.1 h))

pub returns-then-other-lt-HIGH : goal.returns-then-other-lt-HIGH
returns-then-other-lt-HIGH c n = has_without c.args.set c.args.other n (omega arith) c.if-other-lt-HIGH.true

pub returns-then-number : goal.returns-then-number
returns-then-number c n = has_cleared c.args.set c.args.other n (omega arith) c.if-other-lt-HIGH.false c.if-number.true

pub returns-else-number : goal.returns-else-number
returns-else-number c n = has_beyond c.args.set c.args.other n (omega arith) c.if-other-lt-HIGH.false c.if-number.false
