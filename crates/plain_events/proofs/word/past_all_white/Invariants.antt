-- The rest is behind white space.
use Rattle.std.proofs.Common.{ℕ, List, length}
use Rattle.edn.specs.Text.{SkipsGap}
use Rattle.plain_events.proofs.word.past_all_white.Given as goal

abbrev pub invariant-loop-first : goal.invariant-loop-first
invariant-loop-first l = (d : ℕ) (r : List ℕ) → SkipsGap d l.rest r → SkipsGap d l.text r

abbrev pub decreases-loop-first : goal.decreases-loop-first
decreases-loop-first l = length l.rest
