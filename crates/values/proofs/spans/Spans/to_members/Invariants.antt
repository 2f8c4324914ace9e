use Rattle.std.proofs.Common.{◌≡◌, ◌≤◌, ◌-◌, length, take}
use Rattle.values.specs.Spans.{integers_in}
use Rattle.values.proofs.spans.Spans.to_members.Given as goal

abbrev pub invariant-parts : goal.invariant-parts
invariant-parts l = record {
  within : l.at ≤ length l.self-inside.spans;
  so_far : l.items.items ≡ integers_in (take l.at l.self-inside.spans);
}

abbrev pub decreases-parts : goal.decreases-parts
decreases-parts l = length l.self-inside.spans - l.at
