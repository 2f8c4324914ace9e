use Rattle.std.proofs.Common.{IfSome}
use Rattle.wide_set.specs.Facts.{HasLogged}
use Rattle.wide_set.proofs.Searching.{IsLeastLogged}
use Rattle.wide_set.proofs.queries.first_logged.Given as goal

abbrev pub invariant-loop-added : goal.invariant-loop-added
invariant-loop-added l = record {
  found : IfSome l.first (λ moment. HasLogged l.log l.value moment);
  least : IsLeastLogged l.log l.value l.added-index l.first;
}
