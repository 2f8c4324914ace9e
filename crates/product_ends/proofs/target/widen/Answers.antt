use Rattle.std.proofs.Common.{inl, refl, arith}
use Rattle.product_ends.proofs.Widening.{widened_more}
use Rattle.product_ends.proofs.target.widen.Goals as goal

pub loop-at-preserved : goal.loop-at-preserved
loop-at-preserved c =
    widened_more c.args.stays.now c.args.sets.now c.loop-at.next.items c.loop-at.at c.widened.result c.loop-at.invariant.0 (omega arith) c.widened.ensures c.loop-at.invariant.1

pub loop-past-init : goal.loop-past-init
loop-past-init c = (c.loop-at.invariant.0, (λ k lt. c.loop-at.invariant.1 k (omega (arith, lt))))

pub loop-past-preserved : goal.loop-past-preserved
loop-past-preserved c =
    widened_more c.args.stays.now c.args.sets.now c.loop-past.next.items c.loop-past.past _ c.loop-past.invariant.0 c.loop-past-test.true (inl refl) c.loop-past.invariant.1
