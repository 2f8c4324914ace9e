use Rattle.std.proofs.Common.{◌≤◌, take}
use Rattle.std.specs.List.{Contains}
use Rattle.wide_set.specs.declared.known.Pending.{Pending}
use Rattle.wide_set.proofs.queries.oldest.Given as goal

abbrev pub invariant-loop-call : goal.invariant-loop-call
invariant-loop-call l = record {
  within : l.least ≤ l.moment;
  below : (p : Pending) → Contains (take l.call-index l.pending) p → l.least ≤ p.since;
}
