use Rattle.std.proofs.Common.{arith}
use Rattle.products.proofs.Sets.{apart_at, inside_each}
use Rattle.products.proofs.product.overlap_of.Goals as goal

pub returns-then-intersection-eq0-clause-apart : goal.returns-then-intersection-eq0-clause-apart
returns-then-intersection-eq0-clause-apart c _ =
    apart_at c.args.sets.now c.args.others.now c.loop-place.place c.intersection.result c.requires.long (omega arith) c.if-intersection-eq0.true c.intersection.ensures

pub returns-clause-inside : goal.returns-clause-inside
returns-clause-inside c _ =
    inside_each c.args.sets.now c.args.others.now c.requires.long (λ k n lt. c.loop-at.invariant k n (omega arith))
