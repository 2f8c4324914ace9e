use Rattle.std.proofs.Common.{refl}
use Rattle.machine.specs.declared.command.Command.TheVariants.{Finish}
use Rattle.clients.specs.declared.client.Next.TheVariants.{Draw}
use Rattle.clients.specs.Plays.{finishes}
use Rattle.clients.proofs.Making.{answered, refused, came_none, none_self}
use Rattle.clients.proofs.client.finish.Goals as goal
use Rattle.clients.proofs.client.finish.Goals.{in-Ok, in-Err}

pub returns : goal.returns
returns g c thread =
    elim c.match-call.branch [
      | in-Ok w ↦ rw w.result-is (answered thread (finishes c.args.ticket) _ _ _ (Finish c.args.ticket) _ _ Draw refl w.in-Ok.is c.call.ensures (came_none thread _ _ (none_self _)))
      | in-Err w ↦ rw w.result-is (refused thread (finishes c.args.ticket) _ _ (Finish c.args.ticket) _ _ _ refl w.in-Err.is c.call.ensures w.after_refusal.ensures)
    ]
