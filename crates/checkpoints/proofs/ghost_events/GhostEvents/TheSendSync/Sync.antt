-- It owns nothing, so threads may share it.
use denote.Param.Send.{IsSync, part_keyless}
use Rattle.checkpoints.specs.contracts.ghost_events.GhostEvents.{the_row}
use Rattle.checkpoints.proofs.ghost_events.GhostEvents.TheSendSync.Send.{send}

pub sync : IsSync the_row
sync = record { shared = λ d b o κ q. part_keyless the_row send q d b o }
