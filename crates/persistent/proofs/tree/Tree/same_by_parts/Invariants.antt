use Rattle.std.proofs.Common.{◌≡◌, ◌≤◌, ◌-◌, length, take}
use Rattle.persistent.proofs.tree.Tree.same_by_parts.Given as goal

abbrev pub invariant-parts : goal.invariant-parts
invariant-parts g l = record {
  within : l.at ≤ length l.self;
  same : take l.at l.self ≡ take l.at l.other;
}

abbrev pub decreases-parts : goal.decreases-parts
decreases-parts g l = length l.self - l.at
