use Rattle.std.proofs.Common.{◌≡◌, ◌^◌, map, take}
use Rattle.words.specs.Words.{digits}
use Rattle.rows.proofs.row_set.listed.Given as goal

abbrev pub invariant-loop-at : goal.invariant-loop-at
invariant-loop-at l = l.lists ≡ map (digits (2 ^ l.bits) l.long) (take l.at l.words)
