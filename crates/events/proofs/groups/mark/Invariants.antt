use Rattle.std.proofs.Common.{ℕ, List, ◌++◌, take}
use Rattle.events.specs.Replicas.{HasSeen}
use Rattle.events.proofs.groups.mark.Given as goal

abbrev pub invariant-loop-number : goal.invariant-loop-number
invariant-loop-number l = (before : List ℕ) → HasSeen l.initial.seen before → HasSeen l.seen (before ++ take l.number-index l.numbers)
