use Rattle.std.proofs.Common.{◌+◌, ◌-◌}
use Rattle.parallel_recheck.proofs.workers.+fn-judged_from-others+judged_from.Given as goal

abbrev pub decreases-others : goal.decreases-others
decreases-others g l = l.workers - (l.worker + 1)

abbrev pub decreases-judged_from : goal.decreases-judged_from
decreases-judged_from g l = l.workers - l.worker
