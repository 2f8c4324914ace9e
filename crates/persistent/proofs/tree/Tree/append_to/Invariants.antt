use Rattle.std.proofs.Common.{◌≡◌, ◌≤◌, ◌-◌, ◌++◌, length, take}
use Rattle.persistent.proofs.tree.Tree.append_to.Given as goal

abbrev pub invariant-parts : goal.invariant-parts
invariant-parts g l = record {
  within : l.at ≤ length l.self;
  so_far : l.list.items ≡ l.initial.list.items ++ take l.at l.self;
}

abbrev pub decreases-parts : goal.decreases-parts
decreases-parts g l = length l.self - l.at
