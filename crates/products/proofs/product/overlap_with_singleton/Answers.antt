use Rattle.std.proofs.Common.{arith}
use Rattle.products.proofs.Sets.{apart_at, inside_each}
use Rattle.products.proofs.product.overlap_with_singleton.Goals as goal

pub returns-then-both-eq0-clause-apart : goal.returns-then-both-eq0-clause-apart
returns-then-both-eq0-clause-apart c _ =
    apart_at c.args.sets.now c.args.others.now c.loop-place.place c.intersection-both.result c.requires.long (omega arith) c.if-both-eq0.true c.intersection-both.ensures

pub returns-then-inside-2-clause-inside : goal.returns-then-inside-2-clause-inside
returns-then-inside-2-clause-inside c _ =
    inside_each c.args.sets.now c.args.others.now c.requires.long (λ k n lt. c.loop-place.invariant c.if-inside-2.true k n (omega arith))
