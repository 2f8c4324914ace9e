use Rattle.std.proofs.Common.{take}
use Rattle.history.specs.HistoryInvariant.{IsSoundHistory}
use Rattle.history.proofs.clients.Clients.after.Given as goal

abbrev pub invariant-loop-i : goal.invariant-loop-i
invariant-loop-i l = IsSoundHistory l.concurrency (take l.i l.events) l.clients.threads l.clients.opened.items
