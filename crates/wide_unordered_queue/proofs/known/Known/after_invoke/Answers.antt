use Rattle.std.proofs.Common.{sym}
use Rattle.wide_unordered_queue.specs.Facts.{facts_of}
use Rattle.wide_unordered_queue.proofs.Taking.{invoked}
use Rattle.wide_unordered_queue.proofs.known.Known.after_invoke.Goals as goal

pub returns-clause-taken : goal.returns-clause-taken
returns-clause-taken c = invoked (facts_of c.args.self.now) c.args.id c.args.op.now c.call_of.result (sym c.call_of.ensures)
