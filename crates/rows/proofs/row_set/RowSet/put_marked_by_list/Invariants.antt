-- So far the rows that are marked are put.
use Rattle.rows.specs.RowSets.{PutsMarked}
use Rattle.rows.proofs.row_set.RowSet.put_marked_by_list.Given as goal

abbrev pub invariant-loop-at : goal.invariant-loop-at
invariant-loop-at l = PutsMarked l.place l.marks l.other l.at l.initial.self l.self
