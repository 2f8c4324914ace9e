use Rattle.wide_cas_register.proofs.Layering.{all_stepped, none_stepped, step_passed, step_put}
use Rattle.wide_cas_register.proofs.fronts.step_all.Goals as goal
use Rattle.wide_cas_register.proofs.fronts.step_all.Goals.{in-Some+in_ok-keep, in_default}

pub loop-call-init : goal.loop-call-init
loop-call-init c = none_stepped c.args.calls.now c.args.moment c.args.there.now c.args.front.now c.args.layer.now.items

pub loop-call-preserved : goal.loop-call-preserved
loop-call-preserved c =
    let calls = c.args.calls.now in
    let now = c.args.moment in
    let there = c.args.there.now in
    let front = c.args.front.now in
    let first = c.args.layer.now.items in
    let i = c.loop-call.call-index in
    let was = c.loop-call.layer.items in
    elim c.match-branch-2.branch [
      | in-Some+in_ok-keep w ↦
          rw w.layer-is (step_put calls now there front first i _ c.loop-call-test.true was c.loop-call.invariant w.in-Some.next w.keep.new.layer.items (rw w.in-Some.is at c.in_ok-next.ensures.some) w.in_ok-keep.ensures)
      | in_default w ↦ rw w.layer-is (step_passed calls now there front first i _ c.loop-call-test.true was c.loop-call.invariant (c.in_ok-next.ensures.none w.in_default.is))
    ]

pub returns : goal.returns
returns c = all_stepped c.args.calls.now c.args.moment c.args.there.now c.args.front.now c.args.layer.now.items c.loop-call.call-index c.loop-call-test.false c.loop-call.layer.items c.loop-call.invariant
