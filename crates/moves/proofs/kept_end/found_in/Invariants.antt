use Rattle.std.proofs.Common.{◌≡◌, drop}
use Rattle.moves.specs.KeptEnds.{found_at}
use Rattle.moves.proofs.kept_end.found_in.Given as goal

abbrev pub invariant-loop-entry : goal.invariant-loop-entry
invariant-loop-entry l = found_at l.pending l.id ≡ found_at (drop l.entry-index l.pending) l.id
