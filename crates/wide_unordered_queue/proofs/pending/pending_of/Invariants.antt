use Rattle.std.proofs.Common.{◌≢◌, take}
use Rattle.std.specs.List.{Contains}
use Rattle.wide_unordered_queue.specs.declared.pending.Pending.{Pending}
use Rattle.wide_unordered_queue.proofs.pending.pending_of.Given as goal

abbrev pub invariant-loop-call : goal.invariant-loop-call
invariant-loop-call l = (p : Pending) → Contains (take l.call-index l.pending) p → p.id ≢ l.id
