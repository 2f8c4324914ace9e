use Rattle.std.proofs.Common.{inl, ⊎_elim}
use Rattle.wide_set.specs.declared.log.Added.{Added}
use Rattle.wide_set.specs.Queries.{IsTimelyAdd}
use Rattle.wide_set.proofs.Loops.{none_at_first, some_with_here, some_of_all, either_grows, either_same}
use Rattle.wide_set.proofs.queries.put_logged.Goals as goal

pub loop-added-init : goal.loop-added-init
loop-added-init c v = (inl, (λ h. ⊎_elim (λ k. k) (λ k. absurd (none_at_first (λ (a : Added). IsTimelyAdd a c.args.limit.now v) c.args.log.now k)) h))

pub loop-added-preserved : goal.loop-added-preserved
loop-added-preserved c v = either_grows (c.in_ok-put.ensures v) (c.loop-added.invariant v) (c.timely_value.ensures v)
    (some_with_here (λ (a : Added). IsTimelyAdd a c.args.limit.now v) c.args.log.now c.loop-added.added-index _ c.loop-added-test.true)

pub returns : goal.returns
returns c v = either_same (c.loop-added.invariant v) (some_of_all (λ (a : Added). IsTimelyAdd a c.args.limit.now v) c.args.log.now c.loop-added.added-index c.loop-added-test.false)
