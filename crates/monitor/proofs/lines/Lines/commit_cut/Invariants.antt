use Rattle.std.proofs.Common.{◌≡◌, take}
use Rattle.monitor.specs.Rows.{cut_done}
use Rattle.monitor.proofs.Changing.{first_changed}
use Rattle.monitor.proofs.lines.Lines.commit_cut.Given as goal

abbrev pub invariant-loop-place : goal.invariant-loop-place
invariant-loop-place l = l.self.rows ≡ first_changed (cut_done l.n) l.place (take l.kept l.fn.self.rows)
