-- When the operation of a ticket is open
use Rattle.std.proofs.Common.{◌≡◌, ℕ, Some, option_map, List, sym, ap, ◌∙◌}
use Rattle.models.specs.declared.operation.Op.{Op}
use Rattle.processes.specs.MoveRule.{current_of}
use Rattle.events.specs.declared.event.Event.{Event}
use Rattle.history.specs.WellFormed.{moves_of, open_of, open_index}
use Rattle.machine.specs.declared.ticket.Ticket.{Ticket}
use Rattle.machine.specs.Trials.{IsStillOpen}
use Rattle.machine.specs.Tickets.{StandsFor}
use Rattle.machine.proofs.Tickets.{still_open}

-- the thread's open operation has this index
pub open_by_index : (c : ℕ) (events : List Event) (t : Ticket) → StandsFor c events t → current_of c (moves_of events) t.thread ≡ t.process → open_index c events t.thread ≡ Some t.index → IsStillOpen events t
open_by_index c events t s current at = (still_open c events t s).1 (ap (λ p. option_map (λ (x : ℕ × Op). x.0) (open_of events p)) (sym current) ∙ at)
