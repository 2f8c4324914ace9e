-- It owns nothing, so it can be sent to another thread.
use denote.Param.Send.{IsSend, owning_send}
use Rattle.checkpoints.specs.contracts.ghost_events.GhostEvents.{the_row, the_type}

pub send : IsSend the_row
send = owning_send the_type tt (λ d. tt) (λ k x w. tt)
