use Rattle.parallel_recheck.proofs.Slots.{put_in, filled_here, stays_filled}
use Rattle.parallel_recheck.proofs.workers.put.Goals as goal

pub returns-clause-slots : goal.returns-clause-slots
returns-clause-slots c lines are among = put_in lines c.args.slots.now c.args.placed.place c.args.placed.line are c.requires among

pub returns-clause-filled : goal.returns-clause-filled
returns-clause-filled c = filled_here c.args.slots.now c.args.placed.place c.args.placed.line c.requires

pub returns-clause-others : goal.returns-clause-others
returns-clause-others c = stays_filled c.args.slots.now c.args.placed.place c.args.placed.line c.requires
