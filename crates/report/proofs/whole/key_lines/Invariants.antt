-- The text is the lines of the keys so far.
use Rattle.std.proofs.Common.{take}
use Rattle.linspec.specs.JudgedHistory.{keys_in_order}
use Rattle.report.specs.Report.{IsRows}
use Rattle.report.proofs.whole.key_lines.Given as goal

abbrev pub invariant-loop-place : goal.invariant-loop-place
invariant-loop-place l = IsRows l.monitor.now (take l.place (keys_in_order l.monitor.now.events)) l.text.items
