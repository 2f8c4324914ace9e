use Rattle.std.proofs.Common.{◌≤◌}
use Rattle.wide_register.proofs.next.writes_of.Given as goal

abbrev pub invariant-loop-call : goal.invariant-loop-call
invariant-loop-call l = l.many ≤ l.call-index
