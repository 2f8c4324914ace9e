use Rattle.checkpoints.proofs.Judging.{is_alive}
use Rattle.checkpoints.proofs.key_state.KeyState.copy.Goals as goal

pub returns-in_ok-copy-in-Alive : goal.returns-in_ok-copy-in-Alive
returns-in_ok-copy-in-Alive c kind budget events stands =
    let h = is_alive kind budget events _ stands c.in-Alive.live c.in-Alive.is in
    (h.0, c.in_ok-copy-in-Alive.ensures kind budget events h.1)
