use Rattle.plain_events.proofs.UsualTexts.{usual_map}
use Rattle.plain_events.proofs.usual.usual.Goals as goal

pub returns : goal.returns
returns c = usual_map _ _ _ c.in_ok-index.index c.in_ok-index.kind c.in_ok-index.process c.in_ok-name.name c.in_ok-name.key c.in_ok-name.part c.in_ok-index.ensures c.in_ok-name.ensures
