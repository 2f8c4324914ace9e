use Rattle.std.proofs.Common.{◌++◌, arith, subst}
use Rattle.std.proofs.lemmas.List.{take_all}
use Rattle.test_store.specs.Marked.{HasMarked}
use Rattle.test_store.proofs.Marking.{stops_twice, marks_more}
use Rattle.test_store.proofs.fault.mark.Goals as goal

pub returns-then-seen-place : goal.returns-then-seen-place
returns-then-seen-place c before h after once =
    stops_twice c.loop-number.seen before c.args.numbers.now after c.loop-number.number-index c.from-place.result c.loop-number-test.true c.from-place.ensures (c.loop-number.invariant before h) c.if-seen-place.true once

pub loop-number-preserved : goal.loop-number-preserved
loop-number-preserved c before h =
    marks_more c.loop-number.seen before c.args.numbers.now c.loop-number.number-index c.from-place.result c.loop-number-test.true c.from-place.ensures (c.loop-number.invariant before h) (omega (arith, c.type_inv.numbers c.loop-number.number-index, c.from-place.ensures)) c.if-seen-place.false

pub returns : goal.returns
returns c before h =
    subst (λ l. HasMarked c.loop-number.seen (before ++ l)) (take_all c.loop-number.number-index c.args.numbers.now c.loop-number-test.false) (c.loop-number.invariant before h)
