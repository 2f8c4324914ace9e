-- A judged queue can be sent to another thread, and threads can share one.
use denote.Param.Send.{IsSend, IsSync, sendable}
use Rattle.std.proofs.Crossing.{crosses}
use Rattle.persistent.proofs.tree.Tree.TheLaws.TheKnot as tree
use Rattle.wide_unordered_queue.specs.contracts.backlog.Backlog as backlog
use Rattle.wide_unordered_queue.specs.contracts.known.Known as known
use Rattle.wide_unordered_queue.specs.contracts.change.Change as change
use Rattle.wide_unordered_queue.specs.contracts.judged.WideUnorderedQueue as judged

backlog_send : IsSend (backlog.the_field).row
backlog_send = search (sendable, crosses, tree.crosses) depth 60 fits 20000

backlog_sync : IsSync (backlog.the_field).row
backlog_sync = search (sendable, crosses, tree.crosses) depth 60 fits 20000

known_send : IsSend (known.the_field).row
known_send = search (backlog_send, sendable, crosses) depth 60 fits 20000

known_sync : IsSync (known.the_field).row
known_sync = search (backlog_sync, sendable, crosses) depth 60 fits 20000

change_send : IsSend (change.the_field).row
change_send = search (sendable, crosses) depth 60 fits 20000

change_sync : IsSync (change.the_field).row
change_sync = search (sendable, crosses) depth 60 fits 20000

pub judged_send : IsSend (judged.the_field).row
judged_send = search (known_send, change_send, sendable, crosses) depth 60 fits 20000

pub judged_sync : IsSync (judged.the_field).row
judged_sync = search (known_sync, change_sync, sendable, crosses) depth 60 fits 20000
