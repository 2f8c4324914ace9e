use Rattle.std.proofs.Common.{refl}
use Rattle.machine.specs.declared.command.Command.TheVariants.{Serve}
use Rattle.clients.specs.Plays.{serves}
use Rattle.clients.proofs.Making.{answered, refused}
use Rattle.clients.proofs.client.serve_and_finish.Goals as goal
use Rattle.clients.proofs.client.serve_and_finish.Goals.{in-Ok, in-Err}

pub returns : goal.returns
returns g c thread =
    elim c.match-call.branch [
      | in-Ok w ↦ rw (w.seat-is, w.result-is) (answered thread (serves c.args.ticket) _ _ _ (Serve c.args.ticket) _ _ _ refl w.in-Ok.is c.call.ensures (w.finish.ensures thread))
      | in-Err w ↦ rw (w.seat-is, w.result-is) (refused thread (serves c.args.ticket) _ _ (Serve c.args.ticket) _ _ _ refl w.in-Err.is c.call.ensures w.after_refusal.ensures)
    ]
