use Rattle.std.proofs.Common.{◌≡◌, ◌≤◌, ◌-◌, ◌^◌, length, take}
use Rattle.std.specs.Prelude.{min}
use Rattle.values.specs.Spans.{integers_in}
use Rattle.values.proofs.spans.room_for.Given as goal

abbrev pub invariant-parts : goal.invariant-parts
invariant-parts l = record {
  within : l.at ≤ length l.spans;
  so_far : l.room ≡ min (length (integers_in (take l.at l.spans))) (2 ^ 64 - 1);
}

abbrev pub decreases-parts : goal.decreases-parts
decreases-parts l = length l.spans - l.at
