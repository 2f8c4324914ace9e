use Rattle.std.proofs.Common.{rules}
use Rattle.std.proofs.lemmas.Iterator.{items_from_collect}
use Rattle.std.proofs.lemmas.Iterator.Adapters.{YieldsList-from_vec}
use Rattle.std.proofs.lemmas.Iterator.Consumers.{YieldsList-from_enumerate}
use Rattle.clients.proofs.run.numbered.Goals as goal

pub returns : goal.returns
returns g c =
    items_from_collect c.collect.result c.collect.ensures.ran (YieldsList-from_enumerate (YieldsList-from_vec {s = c.enumerate.result.iter} c.args.seats.items (search rules) (search rules)) cc)
