-- the same key, one place further
use Rattle.std.proofs.Common.{arith}
use Rattle.witness.specs.declared.placing.Position.{Position}
use Rattle.witness.proofs.ByKeys.{same_more, same_first}
use Rattle.witness.proofs.keys.end_of_key.Goals as goal

pub loop-at-init : goal.loop-at-init
loop-at-init c = same_first c.args.positions.now c.args.start

pub returns-then-positions-at-clause-same : goal.returns-then-positions-at-clause-same
returns-then-positions-at-clause-same c = c.loop-at.invariant

pub loop-at-preserved : goal.loop-at-preserved
loop-at-preserved c =
    let d : Position = record { key = 0; place = 0; id = 0 } in
    same_more c.args.positions.now c.args.start c.loop-at.at d d c.loop-at-test.true c.requires c.if-positions-at.false c.loop-at.invariant

pub returns-clause-same : goal.returns-clause-same
returns-clause-same c = λ i d le l. c.loop-at.invariant i d le (let t = c.loop-at-test.false in omega (arith, t, l))
