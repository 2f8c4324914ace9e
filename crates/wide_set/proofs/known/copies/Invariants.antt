use Rattle.std.proofs.Common.{◌≡◌, take}
use Rattle.wide_set.proofs.known.copies.Given as goal

abbrev pub invariant-loop-at : goal.invariant-loop-at
invariant-loop-at l = l.list.items ≡ take l.at l.answers
