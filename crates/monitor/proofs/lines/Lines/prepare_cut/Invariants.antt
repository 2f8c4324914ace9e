use Rattle.std.proofs.Common.{◌≤◌}
use Rattle.monitor.proofs.Cutting.{AreCutSoFar}
use Rattle.monitor.proofs.lines.Lines.prepare_cut.Given as goal

abbrev pub invariant-loop-place : goal.invariant-loop-place
invariant-loop-place l = record {
  so_far : AreCutSoFar l.n l.initial.self.rows l.self.rows l.place l.kept l.verdict l.initial.judged_again l.judged_again;
  room : l.initial.self.room ≤ l.self.room;
}
