use Rattle.std.proofs.Common.{map}
use Rattle.parallel_recheck.specs.Pieces.{line_of}
use Rattle.parallel_recheck.specs.Placed.{IsShare, IsOwn}
use Rattle.parallel_recheck.proofs.workers.judged_by.Given as goal

abbrev pub invariant-loop-place : goal.invariant-loop-place
invariant-loop-place g l = record { share : IsShare (map line_of l.pieces) (IsOwn l.worker l.workers) l.place l.placed.items }
