use Rattle.std.proofs.Common.{ℤ, ◌⊎◌, take}
use Rattle.std.specs.List.{Contains}
use Rattle.wide_set.proofs.members.is_covered.Given as goal

abbrev pub invariant-loop-value : goal.invariant-loop-value
invariant-loop-value l = (v : ℤ) → Contains (take l.value-index l.these) v → Contains l.first v ⊎ Contains l.second v
