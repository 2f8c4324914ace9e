use Rattle.std.proofs.Common.{◌≡◌, ◌≢◌, sym, ap, ◌∙◌, rules, to_z, of_z, w64}
use Rattle.wide_fifo_queue.specs.declared.known.Enqueued.{Enqueued}
use Rattle.wide_fifo_queue.proofs.Loops.{with_here, of_all}
use Rattle.wide_fifo_queue.proofs.lists.first_of.Goals as goal

pub loop-entry-preserved : goal.loop-entry-preserved
loop-entry-preserved c =
    let same : to_z w64 (of_z w64 c.args.value) ≡ c.args.value = search rules in
    with_here (λ (x : Enqueued). x.value ≢ to_z w64 (of_z w64 c.args.value)) c.args.late.now c.loop-entry.entry-index _ c.loop-entry-test.true c.loop-entry.invariant (λ q. c.if-entry-value.false (ap (of_z w64) (q ∙ same)))

pub returns-clause-none : goal.returns-clause-none
returns-clause-none c e x h q =
    let same : to_z w64 (of_z w64 c.args.value) ≡ c.args.value = search rules in
    of_all (λ (y : Enqueued). y.value ≢ to_z w64 (of_z w64 c.args.value)) c.args.late.now c.loop-entry.entry-index c.loop-entry-test.false c.loop-entry.invariant x h (q ∙ sym same)
