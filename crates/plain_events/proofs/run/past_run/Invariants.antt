-- If the bytes that are wanted yet stand before a rest, then all of them stand before it.
use Rattle.std.proofs.Common.{◌≡◌, ◌++◌, List, ℕ, length}
use Rattle.plain_events.proofs.run.past_run.Given as goal

abbrev pub invariant-loop-wanted : goal.invariant-loop-wanted
invariant-loop-wanted l = (rest : List ℕ) → l.left ≡ l.wanted ++ rest → l.text ≡ l.run ++ rest

abbrev pub decreases-loop-wanted : goal.decreases-loop-wanted
decreases-loop-wanted l = length l.wanted
