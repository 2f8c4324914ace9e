use Rattle.std.proofs.Common.{◌≡◌, ◌≤◌}
use Rattle.monitor.specs.Rows.{without_next}
use Rattle.monitor.proofs.Changing.{first_changed}
use Rattle.monitor.proofs.lines.Lines.drop_prepared.Given as goal

abbrev pub invariant-loop-place : goal.invariant-loop-place
invariant-loop-place l = record {
  changed : l.self.rows ≡ first_changed without_next l.place l.initial.self.rows;
  room : l.initial.self.room ≤ l.self.room;
}
