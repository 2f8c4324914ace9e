-- A judged queue can be sent to another thread, and threads can share one.
use denote.Param.Send.{IsSend, IsSync, sendable}
use Rattle.std.proofs.Crossing.{crosses}
use Rattle.persistent.proofs.tree.Tree.TheLaws.TheKnot as tree
use Rattle.wide_fifo_queue.specs.contracts.known.Known as known
use Rattle.wide_fifo_queue.specs.contracts.judged.WideFifoQueue as judged

known_send : IsSend (known.the_field).row
known_send = search (sendable, crosses, tree.crosses) depth 60 fits 20000

known_sync : IsSync (known.the_field).row
known_sync = search (sendable, crosses, tree.crosses) depth 60 fits 20000

pub judged_send : IsSend (judged.the_field).row
judged_send = search (known_send, sendable, crosses) depth 60 fits 20000

pub judged_sync : IsSync (judged.the_field).row
judged_sync = search (known_sync, sendable, crosses) depth 60 fits 20000
