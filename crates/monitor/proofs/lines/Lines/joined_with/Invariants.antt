use Rattle.std.proofs.Common.{take}
use Rattle.indexmap.specs.Layout.{set_value_at}
use Rattle.linspec.specs.KeyHistory.{KeyHistory, IsStatusOf}
use Rattle.monitor.specs.Rows.{nows, JoinsRows}
use Rattle.monitor.proofs.lines.Lines.joined_with.Given as goal

abbrev pub invariant-loop-other : goal.invariant-loop-other
invariant-loop-other l =
    (next : KeyHistory) → IsStatusOf next l.status
    → JoinsRows (take l.other (set_value_at (nows l.self.rows) l.place next)) l.verdict
