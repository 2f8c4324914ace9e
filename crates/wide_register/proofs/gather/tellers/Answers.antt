use Rattle.std.proofs.Common.{⊎_elim}
use Rattle.std.proofs.lemmas.List.Elements.{Contains-get_or}
use Rattle.wide_register.proofs.gather.tellers.Goals as goal

pub loop-call-preserved : goal.loop-call-preserved
loop-call-preserved c i h = ⊎_elim
    (c.loop-call.invariant i)
    (λ k. (_, Contains-get_or c.args.calls.now c.loop-call.call-index _ c.loop-call-test.true, k.0, k.1))
    (c.in_ok-note_open.ensures i h)
