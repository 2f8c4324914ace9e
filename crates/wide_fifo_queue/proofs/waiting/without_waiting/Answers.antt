use Rattle.std.proofs.Common.{◌≡◌, ◌≢◌, ◌<◌, ◌≤◌, inr, length, sym, ap, ◌∙◌, subst, arith, rules, to_z, of_z, w64}
use Rattle.wide_fifo_queue.specs.declared.known.Waiting.{Waiting}
use Rattle.wide_fifo_queue.proofs.Loops.{with_here, of_all}
use Rattle.wide_fifo_queue.proofs.waiting.without_waiting.Goals as goal

pub loop-at-preserved : goal.loop-at-preserved
loop-at-preserved c =
    let same : to_z w64 (of_z w64 c.args.value) ≡ c.args.value = search rules in
    let long = c.len-at-end.ensures in
    let lt : c.loop-at.at < length c.args.waiting.now = omega arith in
    with_here (λ (w : Waiting). w.value ≢ to_z w64 (of_z w64 c.args.value)) c.args.waiting.now c.loop-at.at c.get.result lt c.loop-at.invariant
    (subst (λ (w : Waiting). w.value ≢ to_z w64 (of_z w64 c.args.value)) (c.get.ensures c.get.result) (λ q. c.if-get-value.false (ap (of_z w64) (q ∙ same))))

pub returns : goal.returns
returns c =
    let same : to_z w64 (of_z w64 c.args.value) ≡ c.args.value = search rules in
    let long = c.len-at-end.ensures in
    let le : length c.args.waiting.now ≤ c.loop-at.at = omega arith in
    inr (c.in_ok-row.ensures, λ w h q. of_all (λ (x : Waiting). x.value ≢ to_z w64 (of_z w64 c.args.value)) c.args.waiting.now c.loop-at.at le c.loop-at.invariant w h (q ∙ sym same))
