use Rattle.std.proofs.Common.{◌≡◌, ◌-◌, ◌^◌, length, take}
use Rattle.std.specs.Prelude.{min}
use Rattle.values.specs.Spans.{integers_in}
use Rattle.values.proofs.spans.room_of.Given as goal

abbrev pub invariant-loop-at : goal.invariant-loop-at
invariant-loop-at l = l.room ≡ min (length (integers_in (take l.at l.spans))) (2 ^ 64 - 1)
