use Rattle.std.proofs.Common.{map, take, []}
use Rattle.moves.specs.KeptEnds.{AreIncluded, end_kept}
use Rattle.moves.specs.EndSteps.{Along}
use Rattle.moves.specs.Tables.{IsThat, ShownWith}
use Rattle.moves.proofs.table.refill.Given as goal

abbrev pub invariant-loop-kept : goal.invariant-loop-kept
invariant-loop-kept g l = AreIncluded l.calls (map end_kept l.ends) → ShownWith l.table l.calls [] (Along IsThat (take l.kept-index (map end_kept l.ends)))
