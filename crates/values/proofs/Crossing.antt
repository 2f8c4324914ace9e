-- Items, values and spans can be sent to another thread, and threads may share them: the counts of shared parts are made for threads.
use denote.Param.Send.{IsSend, IsSync, sendable}
use Rattle.std.proofs.Crossing.{crosses}
use Rattle.persistent.proofs.tree.Tree.TheLaws.TheKnot as tree
use Rattle.values.specs.contracts.items.Items as items
use Rattle.values.specs.contracts.multiset.Multiset as multiset
use Rattle.values.specs.contracts.spans.Spans as spans

pub items_send : IsSend items.the_row
items_send = search (sendable, crosses, tree.crosses) depth 60

pub items_sync : IsSync items.the_row
items_sync = search (sendable, crosses, tree.crosses) depth 60

pub multiset_send : IsSend multiset.the_row
multiset_send = search (sendable, crosses, tree.crosses) depth 60

pub multiset_sync : IsSync multiset.the_row
multiset_sync = search (sendable, crosses, tree.crosses) depth 60

pub spans_send : IsSend spans.the_row
spans_send = search (sendable, crosses, tree.crosses) depth 60

pub spans_sync : IsSync spans.the_row
spans_sync = search (sendable, crosses, tree.crosses) depth 60
