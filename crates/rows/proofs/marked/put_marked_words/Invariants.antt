-- So far the rows that are marked are put.
use Rattle.std.proofs.Common.{◌^◌, ◌+◌, map}
use Rattle.rows.specs.RowSets.{PutsMarked}
use Rattle.words.specs.Words.{ArePacked, digits}
use Rattle.rows.proofs.marked.put_marked_words.Given as goal

abbrev pub invariant-loop-at : goal.invariant-loop-at
invariant-loop-at l = record {
  put : PutsMarked l.place l.marks (map (digits (2 ^ l.bits) (l.long + 1)) l.others) l.at (map (digits (2 ^ l.bits) l.long) l.initial.words) (map (digits (2 ^ l.bits) l.long) l.words);
  packed : ArePacked l.bits l.long l.words;
}
