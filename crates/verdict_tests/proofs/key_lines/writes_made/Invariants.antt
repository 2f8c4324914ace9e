use Rattle.std.proofs.Common.{◌≡◌}
use Rattle.verdict_tests.specs.LongLine.{writes}
use Rattle.verdict_tests.proofs.key_lines.writes_made.Given as goal

abbrev pub invariant-loop : goal.invariant-loop
invariant-loop l = l.events.items ≡ writes l.counter
