use Rattle.plain_events.proofs.Words.{eight_behind, run_from}
use Rattle.plain_events.proofs.run.past_run.Goals as goal

pub loop-wanted-init : goal.loop-wanted-init
loop-wanted-init c rest e = e

pub loop-wanted-preserved : goal.loop-wanted-preserved
loop-wanted-preserved c rest e =
    c.loop-wanted.invariant rest (eight_behind c.loop-wanted.left.now c.in_ok-left.left.now c.loop-wanted.wanted.now rest c.in-len8-up.len_at_least c.in_ok-left.ensures e)

pub returns : goal.returns
returns c = run_from _ _ _ _ c.past_few.result c.loop-wanted.invariant c.past_few.ensures
