-- So far there are the rows that go on by a number below this one.
use Rattle.std.proofs.Common.{◌≡◌, ◌-◌, ◌*◌, length}
use Rattle.interner.specs.Numbers.{IsOnceIn}
use Rattle.product_ends.specs.Conversion.{HasMore}
use Rattle.product_ends.proofs.Unfolding.{GoesBelow}
use Rattle.product_ends.proofs.conversion.+unfolding.Given as goal

abbrev pub decreases-put_rows : goal.decreases-put_rows
decreases-put_rows l = 2 * (length l.sets.now - l.place)

abbrev pub decreases-put_rows_with : goal.decreases-put_rows_with
decreases-put_rows_with l = 2 * (length l.sets.now - l.place) - 1

abbrev pub invariant-put_rows-loop-number : goal.invariant-put_rows-loop-number
invariant-put_rows-loop-number l = record {
  rows : HasMore (GoesBelow l.sets l.place l.fn.row.items l.number) l.fn.rows l.rows;
  once : IsOnceIn l.fn.rows → IsOnceIn l.rows;
  row : l.row.items ≡ l.fn.row.items;
}
