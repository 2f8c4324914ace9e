use Rattle.std.proofs.Common.{◌≡◌, length, drop, ap, ◌∙◌, rules, arith, length-drop}
use Rattle.std.proofs.lemmas.List.{drop-drop}
use Rattle.wide_fifo_queue.proofs.waiting.without_passed.Goals as goal

pub without-requires : goal.without-requires
without-requires c =
    let inv : c.loop-at.row ≡ drop c.loop-at.at c.args.waiting.now = c.loop-at.invariant in
    let long : length c.loop-at.row ≡ length (drop c.loop-at.at c.args.waiting.now) = ap length inv in
    (search rules, omega (arith, length-drop c.loop-at.at c.args.waiting.now))

pub loop-at-preserved : goal.loop-at-preserved
loop-at-preserved c =
    let inv : c.loop-at.row ≡ drop c.loop-at.at c.args.waiting.now = c.loop-at.invariant in
    c.in_ok-row-2.ensures ∙ ap (drop 1) inv ∙ drop-drop 1 c.loop-at.at c.args.waiting.now

pub returns : goal.returns
returns c =
    let e : c.loop-at.at ≡ c.args.many = omega arith in
    c.loop-at.invariant ∙ ap (λ n. drop n c.args.waiting.now) e
