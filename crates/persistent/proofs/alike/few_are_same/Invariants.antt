use Rattle.std.proofs.Common.{◌≡◌, take}
use Rattle.persistent.proofs.alike.few_are_same.Given as goal

abbrev pub invariant-loop-at : goal.invariant-loop-at
invariant-loop-at g l = take l.at l.xs ≡ take l.at l.ys
