use Rattle.std.proofs.Common.{take}
use Rattle.linspec.specs.Verdicts.{IsJoin}
use Rattle.locality.proofs.joining.join.Given as goal

-- so far it is the join of the first statuses
abbrev pub invariant-loop-key : goal.invariant-loop-key
invariant-loop-key l = IsJoin (take l.key-index l.statuses) l.verdict
