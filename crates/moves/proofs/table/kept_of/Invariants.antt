use Rattle.std.proofs.Common.{[], get_or}
use Rattle.linspec.specs.Ends.{End}
use Rattle.moves.specs.KeptEnds.{end_kept}
use Rattle.moves.specs.Tables.{HasEachOnce, IsToldBefore, Shows, rows_of}
use Rattle.moves.proofs.table.kept_of.Given as goal

abbrev pub invariant-loop-at : goal.invariant-loop-at
invariant-loop-at g l = HasEachOnce l.calls → (e : End g.row.M-State.Denot) → Shows l.table l.calls (get_or (rows_of l.table) l.row_at []) e → IsToldBefore l.calls e (end_kept l.kept) l.at
