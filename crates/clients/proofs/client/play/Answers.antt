use Rattle.std.proofs.Common.{rules}
use Rattle.clients.proofs.Making.{came_on, came_as}
use Rattle.clients.proofs.client.play.Goals as goal

pub loop-preserved : goal.loop-preserved
loop-preserved g c = (came_on _ _ _ _ _ _ c.loop.invariant.0 c.in-Draw.is c.take_turn-next-in-Draw.ensures, search rules, search rules)

pub returns-in-End : goal.returns-in-End
returns-in-End g c = came_as _ _ _ _ _ c.loop.invariant.0 c.in-End.is
