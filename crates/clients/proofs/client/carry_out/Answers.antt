use Rattle.clients.proofs.Making.{came_none, came_to_none}
use Rattle.clients.proofs.client.carry_out.Goals as goal
use Rattle.clients.proofs.client.carry_out.Goals.{in-Drawn, in-Pending, in_default}

pub returns : goal.returns
returns g c thread =
    elim c.match-drawn.branch [
      | in-Drawn w ↦ rw (w.in-Drawn.is, w.seat-is, w.result-is) (w.serve_and_finish.ensures thread)
      | in-Pending w ↦ rw (w.in-Pending.is, w.seat-is, w.result-is) (came_none thread _ _ w.let_others_call.ensures)
      | in_default w ↦ rw (w.seat-is, w.result-is) (came_to_none thread _ c.args.drawn w.in_default.not-Drawn w.in_default.not-Pending)
    ]
