use Rattle.std.proofs.Common.{rules}
use Rattle.clients.proofs.Making.{none_self, none_none}
use Rattle.clients.proofs.pauses.wait_for_a_call.Goals as goal

pub loop-init : goal.loop-init
loop-init g c = (none_self _, tt, tt)

pub loop-preserved : goal.loop-preserved
loop-preserved g c = (none_none _ _ _ c.loop.invariant.0 c.calls_made.ensures.made, search rules, search rules)
