use Rattle.std.proofs.Common.{◌≡◌, List, map, take}
use Rattle.linspec.specs.Ends.{End}
use Rattle.moves.specs.KeptEnds.{end_kept}
use Rattle.moves.specs.Tables.{AreShown, HasEachOnce}
use Rattle.moves.proofs.table.ends_of_table.Given as goal

abbrev pub invariant-loop-row_at : goal.invariant-loop-row_at
invariant-loop-row_at g l = HasEachOnce l.calls → (ends : List (End g.row.M-State.Denot)) → AreShown l.table l.calls ends → map end_kept l.ends.items ≡ take l.row_at ends
