use Rattle.std.proofs.Common.{arith}
use Rattle.std.proofs.lemmas.Bool.{both_ways}
use Rattle.products.proofs.Numbers.{has_common, alone_inside, alone_inside_too, alone_apart, alone_apart_too}
use Rattle.products.proofs.number_set.intersection_with_singleton.Goals as goal
use Rattle.products.proofs.number_set.intersection_with_singleton.Goals.{else-other-ge-HIGH-via-then-other-ge-HIGH+else-has-2, else-other-ge-HIGH-via-else-other-ge-HIGH}

pub returns-then-has : goal.returns-then-has
returns-then-has c = alone_inside c.args.set c.args.other c.if-set-ge-HIGH.true (c.has.ensures.0 c.if-has.true)

pub returns-else-has : goal.returns-else-has
returns-else-has c =
    alone_apart c.args.set c.args.other c.if-set-ge-HIGH.true (λ h. both_ways c.has.result c.if-has.false (c.has.ensures.1 h))

pub returns-then-has-2 : goal.returns-then-has-2
returns-then-has-2 c =
    alone_inside_too c.args.other c.args.set c.if-other-ge-HIGH.true (c.has-then-other-ge-HIGH.ensures.0 c.if-has-2.true)

pub returns-then-other-ge-HIGH-2 : goal.returns-then-other-ge-HIGH-2
returns-then-other-ge-HIGH-2 c =
    elim c.else-other-ge-HIGH.branch [
      | else-other-ge-HIGH-via-then-other-ge-HIGH+else-has-2 w ↦
          alone_apart_too c.args.other c.args.set c.if-other-ge-HIGH-2.true
          (λ h. both_ways w.has-then-other-ge-HIGH.result w.if-has-2.false (w.has-then-other-ge-HIGH.ensures.1 h))
      | else-other-ge-HIGH-via-else-other-ge-HIGH w ↦ absurd (omega arith)
    ]

pub returns-else-other-ge-HIGH-2 : goal.returns-else-other-ge-HIGH-2
returns-else-other-ge-HIGH-2 c n =
    has_common c.args.set c.args.other n (omega arith) (omega arith)
