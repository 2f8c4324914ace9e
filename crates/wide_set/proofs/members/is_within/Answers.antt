use Rattle.std.proofs.Common.{ℤ}
use Rattle.std.specs.List.{Contains}
use Rattle.wide_set.proofs.Loops.{with_here}
use Rattle.wide_set.proofs.members.is_within.Goals as goal

pub loop-value-preserved : goal.loop-value-preserved
loop-value-preserved c = with_here (λ (v : ℤ). Contains c.args.those.now v) c.args.these.now c.loop-value.value-index _ c.loop-value-test.true c.loop-value.invariant c.in-Some.ensures.found
