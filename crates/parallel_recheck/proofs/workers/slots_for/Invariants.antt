use Rattle.std.proofs.Common.{◌≡◌, None, replicate}
use Rattle.parallel_recheck.proofs.workers.slots_for.Given as goal

abbrev pub invariant-loop : goal.invariant-loop
invariant-loop l = record { empty : l.slots.items ≡ replicate l.counter None }
