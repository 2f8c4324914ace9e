use Rattle.std.proofs.Common.{◌≡◌, length, map, take}
use Rattle.monitor.specs.Rows.{nows, JoinsRows}
use Rattle.monitor.specs.Loading.{row_of}
use Rattle.monitor.proofs.loading.joined.Given as goal

abbrev pub invariant-loop-line : goal.invariant-loop-line
invariant-loop-line l = record {
  rows : nows l.lines.rows ≡ take (length l.yielded) (map row_of l.pieces);
  joined : JoinsRows (take (length l.yielded) (map row_of l.pieces)) l.verdict;
}
