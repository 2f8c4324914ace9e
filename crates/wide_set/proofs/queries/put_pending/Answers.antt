use Rattle.std.proofs.Common.{inl, ⊎_elim}
use Rattle.wide_set.specs.declared.known.Pending.{Pending}
use Rattle.wide_set.specs.Queries.{IsTimelyCall}
use Rattle.wide_set.proofs.Loops.{none_at_first, some_with_here, some_of_all, either_grows, either_same}
use Rattle.wide_set.proofs.queries.put_pending.Goals as goal

pub loop-call-init : goal.loop-call-init
loop-call-init c v = (inl, (λ h. ⊎_elim (λ k. k) (λ k. absurd (none_at_first (λ (p : Pending). IsTimelyCall p c.args.but c.args.limit.now v) c.args.pending.now k)) h))

pub loop-call-preserved : goal.loop-call-preserved
loop-call-preserved c v = either_grows (c.in_ok-put.ensures v) (c.loop-call.invariant v) (c.timely_call.ensures v)
    (some_with_here (λ (p : Pending). IsTimelyCall p c.args.but c.args.limit.now v) c.args.pending.now c.loop-call.call-index _ c.loop-call-test.true)

pub returns : goal.returns
returns c v = either_same (c.loop-call.invariant v) (some_of_all (λ (p : Pending). IsTimelyCall p c.args.but c.args.limit.now v) c.args.pending.now c.loop-call.call-index c.loop-call-test.false)
