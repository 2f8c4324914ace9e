use Rattle.std.proofs.Common.{ℕ, List, ◌++◌, take}
use Rattle.test_store.specs.Marked.{HasMarked}
use Rattle.test_store.proofs.fault.mark.Given as goal

abbrev pub invariant-loop-number : goal.invariant-loop-number
invariant-loop-number l = (before : List ℕ) → HasMarked l.initial.seen before → HasMarked l.seen (before ++ take l.number-index l.numbers)
