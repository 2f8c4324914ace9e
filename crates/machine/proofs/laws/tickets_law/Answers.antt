use Rattle.machine.proofs.OnlyCurrent.{by_index}
use Rattle.machine.proofs.Tickets.{none_yet, still_open, may_complete}
use Rattle.machine.proofs.TicketSteps.{tickets_step}
use Rattle.machine.proofs.laws.tickets_law.Goals as goal

pub returns-clause-opening : goal.returns-clause-opening
returns-clause-opening c = none_yet

pub returns-clause-step : goal.returns-clause-step
returns-clause-step c = tickets_step

pub returns-clause-still_open : goal.returns-clause-still_open
returns-clause-still_open c = still_open

pub returns-clause-by_index : goal.returns-clause-by_index
returns-clause-by_index c = by_index

pub returns-clause-completes : goal.returns-clause-completes
returns-clause-completes c = may_complete
