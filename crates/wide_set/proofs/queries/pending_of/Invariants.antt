use Rattle.std.proofs.Common.{◌≢◌, take}
use Rattle.std.specs.List.{Contains}
use Rattle.wide_set.specs.declared.known.Pending.{Pending}
use Rattle.wide_set.proofs.queries.pending_of.Given as goal

abbrev pub invariant-loop-call : goal.invariant-loop-call
invariant-loop-call l = (p : Pending) → Contains (take l.call-index l.pending) p → p.id ≢ l.id
