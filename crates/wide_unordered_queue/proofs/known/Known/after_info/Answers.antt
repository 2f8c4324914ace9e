use Rattle.wide_unordered_queue.specs.Facts.{facts_of}
use Rattle.wide_unordered_queue.proofs.Taking.{crashed}
use Rattle.wide_unordered_queue.proofs.known.Known.after_info.Goals as goal

pub returns-clause-taken : goal.returns-clause-taken
returns-clause-taken c = crashed (facts_of c.args.self.now) c.args.id
