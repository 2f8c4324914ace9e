use Rattle.clients.proofs.Making.{none_none}
use Rattle.clients.proofs.pauses.let_others_call.Goals as goal

pub loop-preserved : goal.loop-preserved
loop-preserved g c = none_none _ _ _ c.loop.invariant c.calls_made-now.ensures.made
