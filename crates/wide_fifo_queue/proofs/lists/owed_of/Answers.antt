use Rattle.std.proofs.Common.{◌≡◌, ◌≢◌, sym, ap, ◌∙◌, rules, to_z, of_z, w64}
use Rattle.wide_fifo_queue.specs.declared.known.Owed.{Owed}
use Rattle.wide_fifo_queue.proofs.Loops.{with_here, of_all}
use Rattle.wide_fifo_queue.proofs.lists.owed_of.Goals as goal

pub loop-due-preserved : goal.loop-due-preserved
loop-due-preserved c =
    let same : to_z w64 (of_z w64 c.args.value) ≡ c.args.value = search rules in
    with_here (λ (x : Owed). x.value ≢ to_z w64 (of_z w64 c.args.value)) c.args.owed.now c.loop-due.due-index _ c.loop-due-test.true c.loop-due.invariant (λ q. c.if-due-value.false (ap (of_z w64) (q ∙ same)))

pub returns : goal.returns
returns c x h q =
    let same : to_z w64 (of_z w64 c.args.value) ≡ c.args.value = search rules in
    of_all (λ (y : Owed). y.value ≢ to_z w64 (of_z w64 c.args.value)) c.args.owed.now c.loop-due.due-index c.loop-due-test.false c.loop-due.invariant x h (q ∙ sym same)
