use Rattle.std.proofs.Common.{◌≡◌, ◌≢◌, IfSome, take}
use Rattle.std.specs.List.{Contains}
use Rattle.wide_set.specs.declared.known.Pending.{Pending}
use Rattle.wide_set.specs.declared.known.Call.TheVariants as calls
use Rattle.wide_set.specs.Facts.{HasPendingAdd}
use Rattle.wide_set.specs.Queries.{IsNoLater}
use Rattle.wide_set.proofs.queries.first_pending.Given as goal

abbrev pub invariant-loop-call : goal.invariant-loop-call
invariant-loop-call l = record {
  found : IfSome l.first (λ moment. HasPendingAdd l.pending l.but l.value moment);
  least : (p : Pending) → Contains (take l.call-index l.pending) p → p.id ≢ l.but → p.call ≡ calls.Add l.value → IsNoLater l.first p.since;
}
