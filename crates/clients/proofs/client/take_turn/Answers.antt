use Rattle.std.proofs.Common.{refl}
use Rattle.machine.specs.declared.command.Command.TheVariants.{Draw}
use Rattle.clients.specs.Plays.{draws}
use Rattle.clients.proofs.Making.{answered, refused}
use Rattle.clients.proofs.client.take_turn.Goals as goal

pub returns-in-Ok : goal.returns-in-Ok
returns-in-Ok g c =
    answered c.args.thread draws _ _ _ (Draw c.args.thread) _ _ _ refl c.in-Ok.is c.call-drawn.ensures (c.carry_out.ensures c.args.thread)

pub returns-in-Err : goal.returns-in-Err
returns-in-Err g c =
    refused c.args.thread draws _ _ (Draw c.args.thread) _ _ _ refl c.in-Err.is c.call-drawn.ensures c.after_refusal.ensures
