use Rattle.std.proofs.Common.{◌≡◌, ◌-◌, length, subst, arith}
use Rattle.products.proofs.Leaving.{IsFound, covers_more, one_found}
use Rattle.products.proofs.taking.one_marked.Goals as goal

pub loop-at-preserved : goal.loop-at-preserved
loop-at-preserved c =
    covers_more c.args.other.now.1 (c.args.place - 1) c.loop-at.at c.loop-at.all c.sets.result.now c.sets.ensures.sets c.loop-at.invariant

pub returns : goal.returns
returns c =
    let all : c.loop-number.number ≡ length c.args.marks.now = omega arith in
    one_found c.args.other.now.1 (c.args.place - 1) c.loop-at.all c.args.marks.now c.loop-number.found (omega arith)
    (λ at product lt. c.loop-at.invariant at product (omega (arith, lt)))
    (subst (λ n. IsFound c.loop-at.all c.args.marks.now n c.loop-number.found) all c.loop-number.invariant)
