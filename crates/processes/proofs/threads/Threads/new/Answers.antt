use Rattle.std.proofs.Common.{[], arith}
use Rattle.processes.proofs.Standing.{stand_at_first}
use Rattle.processes.proofs.threads.Threads.new.Goals as goal

pub invariant_of-result : goal.invariant_of-result
invariant_of-result c =
    ([], stand_at_first c.args.concurrency c.in_ok-threads.threads.items (omega arith, omega arith) c.in_ok-threads.ensures.number c.in_ok-threads.ensures.each)

pub returns-clause-opened : goal.returns-clause-opened
returns-clause-opened c =
    stand_at_first c.args.concurrency c.in_ok-threads.threads.items (omega arith, omega arith) c.in_ok-threads.ensures.number c.in_ok-threads.ensures.each
