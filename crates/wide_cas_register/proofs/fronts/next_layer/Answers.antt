use Rattle.std.proofs.Common.{◌≡◌, ◌<◌, ◌≤◌, drop, get_or, length, subst}
use Rattle.wide_cas_register.proofs.Layering.{all_layered, more_layered, rest_whole}
use Rattle.wide_cas_register.proofs.fronts.next_layer.Goals as goal

pub loop-front-preserved : goal.loop-front-preserved
loop-front-preserved c =
    let i = c.loop-front.front-index in
    let front = c.front-item.result in
    let whole = rest_whole c.args.there.now c.args.from in
    more_layered c.args.calls.now c.args.moment c.args.there.now (drop c.args.from c.args.there.now) i front
    (subst (λ l. i < length l) whole c.loop-front-test.true) (subst (λ l. front ≡ get_or l i front) whole c.front-item.is)
    c.loop-front.layer.items c.step_all.new.layer.items c.loop-front.invariant c.in_ok-step_all.ensures

pub returns : goal.returns
returns c = all_layered c.args.calls.now c.args.moment c.args.there.now (drop c.args.from c.args.there.now) c.loop-front.front-index
    (subst (λ l. length l ≤ c.loop-front.front-index) (rest_whole c.args.there.now c.args.from) c.loop-front-test.false) c.loop-front.layer.items c.loop-front.invariant
