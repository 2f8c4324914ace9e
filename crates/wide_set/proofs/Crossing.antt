-- A judged set can be sent to another thread, and threads may share one.
use denote.Param.Send.{IsSend, IsSync, sendable}
use Rattle.std.proofs.Crossing.{crosses}
use Rattle.persistent.proofs.tree.Tree.TheLaws.TheKnot as tree
use Rattle.values.specs.contracts.members.Members as members
use Rattle.wide_set.specs.contracts.log.Log as log
use Rattle.wide_set.specs.contracts.known.Answered as answered
use Rattle.wide_set.specs.contracts.known.Known as known
use Rattle.wide_set.specs.contracts.change.Change as change
use Rattle.wide_set.specs.contracts.judged.WideSet as judged

members_send : IsSend (members.the_field).row
members_send = search (sendable, crosses) depth 60 fits 20000

members_sync : IsSync (members.the_field).row
members_sync = search (sendable, crosses) depth 60 fits 20000

log_send : IsSend (log.the_field).row
log_send = search (sendable, crosses, tree.crosses) depth 60 fits 20000

log_sync : IsSync (log.the_field).row
log_sync = search (sendable, crosses, tree.crosses) depth 60 fits 20000

answered_send : IsSend (answered.the_field).row
answered_send = search (members_send, sendable, crosses) depth 60 fits 20000

answered_sync : IsSync (answered.the_field).row
answered_sync = search (members_sync, sendable, crosses) depth 60 fits 20000

known_send : IsSend (known.the_field).row
known_send = search (members_send, log_send, answered_send, sendable, crosses) depth 60 fits 20000

known_sync : IsSync (known.the_field).row
known_sync = search (members_sync, log_sync, answered_sync, sendable, crosses) depth 60 fits 20000

change_send : IsSend (change.the_field).row
change_send = search (answered_send, sendable, crosses) depth 60 fits 20000

change_sync : IsSync (change.the_field).row
change_sync = search (answered_sync, sendable, crosses) depth 60 fits 20000

pub judged_send : IsSend (judged.the_field).row
judged_send = search (known_send, change_send, sendable, crosses) depth 60 fits 20000

pub judged_sync : IsSync (judged.the_field).row
judged_sync = search (known_sync, change_sync, sendable, crosses) depth 60 fits 20000
