use Rattle.std.proofs.Common.{◌≡◌}
use Rattle.verdict_tests.specs.LongLine.{writes_from}
use Rattle.verdict_tests.proofs.key_lines.written.Given as goal

abbrev pub invariant-loop-round : goal.invariant-loop-round
invariant-loop-round l = l.line.now.events ≡ writes_from 0 l.round
