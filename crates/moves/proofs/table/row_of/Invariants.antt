use Rattle.std.proofs.Common.{◌≡◌, ◌<◌, ◌+◌, ℕ, Some, slice_get, get_or, length}
use Rattle.moves.specs.declared.pending_op.PendingOp.{PendingOp}
use Rattle.moves.specs.KeptEnds.{end_kept}
use Rattle.moves.specs.Tables.{KeepsRows, found_by}
use Rattle.interner.specs.Numbers.{IsSlot}
use Rattle.moves.proofs.table.row_of.Given as goal

abbrev pub invariant-loop-call : goal.invariant-loop-call
invariant-loop-call g l =
    record {
      long : length l.row.items ≡ l.call-index + 1;
      state : slice_get l.table.states (get_or l.row.items 0 0) ≡ Some l.kept.state;
      slots : (i : ℕ) (c : PendingOp) → i < l.call-index → slice_get l.calls i ≡ Some c → IsSlot l.table.founds (get_or l.row.items (i + 1) 0) (found_by (end_kept l.kept) c);
      rows : KeepsRows l.fn.table l.table;
    }
