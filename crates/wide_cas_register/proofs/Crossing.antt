-- A judged register can be sent to another thread, and threads can share one.
use denote.Param.Send.{IsSend, IsSync, sendable}
use Rattle.std.proofs.Crossing.{crosses}
use Rattle.wide_cas_register.specs.contracts.row.Row as row
use Rattle.wide_cas_register.specs.contracts.kept.Kept as kept
use Rattle.wide_cas_register.specs.contracts.judged.WideCasRegister as judged

row_send : IsSend (row.the_field).row
row_send = search (sendable, crosses) depth 60 fits 20000

row_sync : IsSync (row.the_field).row
row_sync = search (sendable, crosses) depth 60 fits 20000

kept_send : IsSend (kept.the_field).row
kept_send = search (row_send, sendable, crosses) depth 60 fits 20000

kept_sync : IsSync (kept.the_field).row
kept_sync = search (row_sync, sendable, crosses) depth 60 fits 20000

pub judged_send : IsSend (judged.the_field).row
judged_send = search (kept_send, sendable, crosses) depth 60 fits 20000

pub judged_sync : IsSync (judged.the_field).row
judged_sync = search (kept_sync, sendable, crosses) depth 60 fits 20000
