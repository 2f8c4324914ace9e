use Rattle.checkpoints.proofs.Soundness.{status_seen}
use Rattle.checkpoints.proofs.key_line.KeyLine.status.Goals as goal

pub returns : goal.returns
returns c = status_seen _ _ _ _ _ _ c.self.view_is _ c.self.invariant.now.stands _ c.status.ensures
