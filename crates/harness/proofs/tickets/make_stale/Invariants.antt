use Rattle.std.proofs.Common.{◌≡◌, take, drop, map, ◌++◌}
use Rattle.machine.specs.Machine.{stale_from}
use Rattle.harness.proofs.tickets.make_stale.Given as goal

abbrev pub invariant-loop-place : goal.invariant-loop-place
invariant-loop-place l = l.tickets.items ≡ map (stale_from l.n) (take l.place l.fn.tickets.items) ++ drop l.place l.fn.tickets.items
