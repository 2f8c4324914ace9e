use Rattle.std.proofs.Common.{arith}
use Rattle.products.proofs.Sets.{joined_rows, length_rows_joined}
use Rattle.products.proofs.product.joined_at.Goals as goal

pub returns-in-Some-clause-joined : goal.returns-in-Some-clause-joined
returns-in-Some-clause-joined c =
    joined_rows c.args.sets.now c.args.others.now c.loop-place.at c.in-Some.set c.requires.long (omega arith) (λ k lt other. c.loop-place.invariant k (omega arith) other) c.in-Some.ensures

pub returns-in-Some-clause-rows : goal.returns-in-Some-clause-rows
returns-in-Some-clause-rows c =
    length_rows_joined c.args.sets.now c.args.others.now _
    (joined_rows c.args.sets.now c.args.others.now c.loop-place.at c.in-Some.set c.requires.long (omega arith) (λ k lt other. c.loop-place.invariant k (omega arith) other) c.in-Some.ensures)
