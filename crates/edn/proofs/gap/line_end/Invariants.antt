use Rattle.std.proofs.Common.{ℕ, List, length}
use Rattle.edn.specs.Text.{SkipsLine}
use Rattle.edn.proofs.gap.line_end.Given as goal

abbrev pub invariant-loop-first : goal.invariant-loop-first
invariant-loop-first l = (r : List ℕ) → SkipsLine l.rest r → SkipsLine l.text r

abbrev pub decreases-loop-first : goal.decreases-loop-first
decreases-loop-first l = length l.rest
