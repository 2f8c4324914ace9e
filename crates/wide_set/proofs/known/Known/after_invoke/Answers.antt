use Rattle.std.proofs.Common.{refl, sym}
use Rattle.wide_set.specs.Facts.{facts_of}
use Rattle.wide_set.proofs.Taking.{invoked}
use Rattle.wide_set.proofs.known.Known.after_invoke.Goals as goal

pub returns-clause-taken : goal.returns-clause-taken
returns-clause-taken c = invoked (facts_of c.args.self.now) c.args.id c.args.op.now (record { id = c.args.id; call = c.call_of.result; since = c.args.self.now.moment }) refl refl (sym c.call_of.ensures)
