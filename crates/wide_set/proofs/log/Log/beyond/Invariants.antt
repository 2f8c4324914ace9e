use Rattle.std.proofs.Common.{take}
use Rattle.std.specs.List.{Contains}
use Rattle.wide_set.specs.declared.log.Added.{Added}
use Rattle.wide_set.proofs.log.Log.beyond.Given as goal

abbrev pub invariant-loop-added : goal.invariant-loop-added
invariant-loop-added l = record {
  was : (a : Added) → Contains l.log a → Contains l.added-items a;
  stays : (a : Added) → Contains (take l.added-index l.added-items) a → ¬ Contains l.values a.value → Contains l.log a;
}
