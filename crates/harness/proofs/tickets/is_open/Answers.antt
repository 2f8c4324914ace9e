use Rattle.std.proofs.Common.{sym, ap, ◌∙◌, Some}
use Rattle.std.proofs.lemmas.Bool.{eqb-true, eq-eqb}
use Rattle.std.proofs.lemmas.Option.{same_Some}
use Rattle.machine.proofs.OnlyCurrent.{by_index}
use Rattle.harness.proofs.OpenTickets.{open_by_index}
use Rattle.harness.proofs.tickets.is_open.Goals as goal

pub returns-then-current-ticket : goal.returns-then-current-ticket
returns-then-current-ticket c = (
  (λ h. cc),
  (λ still. absurd (c.if-current-ticket.true (c.current.ensures ∙ (by_index c.args.history.now.concurrency c.args.history.now.events c.args.ticket.now c.len-len.ensures.history c.requires still).0))),
)

pub returns-in-Some : goal.returns-in-Some
returns-in-Some c = (
  (λ t. open_by_index c.args.history.now.concurrency c.args.history.now.events c.args.ticket.now c.requires (sym c.current.ensures ∙ c.if-current-ticket.false) (sym c.in-Some.ensures ∙ ap Some (eqb-true c.in-Some.index c.args.ticket.now.index t))),
  (λ still. eq-eqb c.in-Some.index c.args.ticket.now.index (same_Some c.in-Some.index c.args.ticket.now.index (c.in-Some.ensures ∙ (by_index c.args.history.now.concurrency c.args.history.now.events c.args.ticket.now c.len-len.ensures.history c.requires still).1))),
)
