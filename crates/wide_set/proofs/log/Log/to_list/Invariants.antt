use Rattle.std.proofs.Common.{◌≡◌, ◌≤◌, ◌-◌, length, take}
use Rattle.wide_set.proofs.log.Log.to_list.Given as goal

abbrev pub invariant-parts : goal.invariant-parts
invariant-parts l = record {
  within : l.at ≤ length l.self-inside.row;
  so_far : l.list.items ≡ take l.at l.self-inside.row;
}

abbrev pub decreases-parts : goal.decreases-parts
decreases-parts l = length l.self-inside.row - l.at
