use Rattle.std.proofs.Common.{◌≡◌, ◌++◌, length, arith, subst}
use Rattle.std.proofs.lemmas.List.{take_all}
use Rattle.events.specs.Replicas.{HasSeen}
use Rattle.events.proofs.Replicas.{stops_twice, stops_far, marks_more}
use Rattle.events.proofs.groups.mark.Goals as goal
use Rattle.events.proofs.groups.mark.Goals.{then-replica-seen-via-then-replica-seen, then-replica-seen-via-else-replica-seen+then-seen-replica}

pub returns-then-replica-seen : goal.returns-then-replica-seen
returns-then-replica-seen c before h after apart =
    let kept = c.loop-number.invariant before h in
    let len : length c.loop-number.seen ≡ 7 = kept.len in
    elim c.then-replica-seen.branch [
      | then-replica-seen-via-then-replica-seen w ↦ stops_far before c.args.numbers.now after c.loop-number.number-index c.from-replica.result c.loop-number-test.true c.from-replica.ensures (omega arith) apart
      | then-replica-seen-via-else-replica-seen+then-seen-replica w ↦
          stops_twice c.loop-number.seen before c.args.numbers.now after c.loop-number.number-index c.from-replica.result c.loop-number-test.true c.from-replica.ensures kept w.if-seen-replica.true apart
    ]

pub loop-number-preserved : goal.loop-number-preserved
loop-number-preserved c before h =
    let kept = c.loop-number.invariant before h in
    let len : length c.loop-number.seen ≡ 7 = kept.len in
    marks_more c.loop-number.seen before c.args.numbers.now c.loop-number.number-index c.from-replica.result c.loop-number-test.true c.from-replica.ensures kept (omega arith) c.if-seen-replica.false

pub returns : goal.returns
returns c before h =
    subst (λ l. HasSeen c.loop-number.seen (before ++ l)) (take_all c.loop-number.number-index c.args.numbers.now c.loop-number-test.false) (c.loop-number.invariant before h)
