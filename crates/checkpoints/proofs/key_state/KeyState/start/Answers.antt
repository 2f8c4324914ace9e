use Rattle.checkpoints.proofs.Judging.{alive_at_first}
use Rattle.checkpoints.proofs.key_state.KeyState.start.Goals as goal

pub returns : goal.returns
returns c = (alive_at_first _ _, c.in_ok-live.ensures)
