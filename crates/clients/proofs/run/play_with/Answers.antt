use Rattle.clients.proofs.Making.{has_played}
use Rattle.clients.proofs.run.play_with.Goals as goal

pub returns-clause-played : goal.returns-clause-played
returns-clause-played g c = λ none. has_played _ _ _ _ _ c.wait_for_a_call.ensures.made c.wait_for_a_call.ensures.seen c.play-why.ensures (c.of_run.ensures.none none)
