use Rattle.harness.proofs.tickets.ticket_to_serve.Goals as goal

pub is_open-requires : goal.is_open-requires
is_open-requires c = c.requires.stands c.args.number c.in-Some.ticket.now c.in-Some.ensures.0 c.in-Some.ensures.1
