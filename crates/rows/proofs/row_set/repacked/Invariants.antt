-- So far the rows are the same.
use Rattle.std.proofs.Common.{◌≡◌, ◌^◌, map, take}
use Rattle.words.specs.Words.{ArePacked, digits}
use Rattle.rows.proofs.row_set.repacked.Given as goal

abbrev pub invariant-loop-at : goal.invariant-loop-at
invariant-loop-at l = record {
  rows : map (digits (2 ^ l.new_bits) l.long) l.other ≡ map (digits (2 ^ l.bits) l.long) (take l.at l.words);
  packed : ArePacked l.new_bits l.long l.other;
}
