use Rattle.std.proofs.Common.{◌≡◌, take}
use Rattle.moves.proofs.kept_end.copied.Given as goal

abbrev pub invariant-loop-entry : goal.invariant-loop-entry
invariant-loop-entry l = l.entries.items ≡ take l.entry-index l.pending
