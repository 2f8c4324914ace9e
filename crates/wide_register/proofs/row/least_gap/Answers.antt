use Rattle.wide_register.proofs.Trimming.{least_of_more}
use Rattle.wide_register.proofs.row.least_gap.Goals as goal

pub loop-moment-preserved : goal.loop-moment-preserved
loop-moment-preserved c = least_of_more c.args.moments.now c.args.gap c.loop-moment.moment-index 0 c.loop-moment.least c.least_with-least.result
    c.loop-moment-test.true c.loop-moment.invariant c.least_with-least.ensures
